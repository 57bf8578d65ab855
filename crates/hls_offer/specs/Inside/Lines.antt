-- What is appended to a text about the schedulers of a tree, in a version of the language.
use Rattle.std.specs.Prelude.{◌≡◌, ℕ, ◌++◌, List, map, take}
use Rattle.hls_text.specs.Lines.{Text}
use Rattle.hls_report_text.specs.ReportText.{with_end, ended}
use Rattle.hls_sched.specs.Seen.{Seen}
use Rattle.hls_machine.specs.Hierarchy.{Hierarchy}
use Rattle.hls_tree.specs.Trees.{IsTreeOf}
use Rattle.hls_tree.specs.declared.tree.Tree.{Tree}
use Rattle.hls_offer_text.specs.OfferText.{Free, free_text}
use Rattle.hls_offer.specs.Spare.{IsFree, AreFree}

-- V and P are what the checker knows a box by
module _ {V : Type 0} {P : V → Type 0} where
  -- the line of a scheduler
  pub record AddsFree (seen : (x : V) × P x → Seen) (version : ℕ) (t : Tree V P) (periods : List ℕ) (k : ℕ)
      (old new : Text) : Type 0 where
    pub free : Free
    pub text : new ≡ old ++ with_end (free_text version free)
    pub is : (h : Hierarchy) → IsTreeOf seen t h → IsFree periods (h.nodes k) free

  -- the lines of the first schedulers
  pub record AddsSome (seen : (x : V) × P x → Seen) (version : ℕ) (t : Tree V P) (periods : List ℕ) (count : ℕ)
      (old new : Text) : Type 0 where
    pub frees : List Free
    pub text : new ≡ old ++ ended (map (free_text version) frees)
    pub are : (h : Hierarchy) → IsTreeOf seen t h → AreFree periods h (take count h.schedulers) frees

  -- the lines of all schedulers
  pub record AddsAll (seen : (x : V) × P x → Seen) (version : ℕ) (t : Tree V P) (periods : List ℕ) (old new : Text)
      : Type 0 where
    pub frees : List Free
    pub text : new ≡ old ++ ended (map (free_text version) frees)
    pub are : (h : Hierarchy) → IsTreeOf seen t h → AreFree periods h h.schedulers frees
