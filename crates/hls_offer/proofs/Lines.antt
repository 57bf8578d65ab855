-- A line more for each scheduler.
use Rattle.std.proofs.Common.{◌≡◌, ℕ, ◌+◌, ◌≤◌, List, [], ◌∷◌, ◌++◌, Some, refl, sym, ap, ◌∙◌, subst}
use Rattle.std.proofs.Common.{length, take, slice_get, append_assoc}
use Rattle.std.proofs.Common.{true, Option, None}
use Rattle.std.specs.Prelude.{map, All, OnOk}
use Rattle.std.specs.declared.result.Result.{Result}
use Rattle.std.specs.declared.result.Result.TheVariants.{Ok, Err}
use Rattle.std.specs.List.{AllByRecursion}
use Rattle.hls_guarantee.specs.declared.Guarantee.{Guarantee}
use Rattle.hls_guarantee.specs.Limits.{IsNarrow, IsValid}
use Rattle.hls_machine.specs.Hierarchy.{Node, Loaded, Admitted, haves_of}
use Rattle.hls_machine.specs.Legal.{IsReached}
use Rattle.hls_machine.specs.Lists.{IsListed}
use Rattle.hls_machine.specs.Steps.{is_scheduler}
use Rattle.hls_tree.specs.Reads.{IsLoaded}
use Rattle.hls_legal.proofs.GoodStays.{valid_narrow}
use Rattle.hls_manager.proofs.Searches.{fit_at}
use Rattle.std.proofs.lemmas.List.Elements.{All-head, All-tail}
use Rattle.std.proofs.lemmas.List.{take_more, take_all, append-nil}
use Rattle.std.proofs.lemmas.Option.{slice_get_within, get_or_from_slice_get}
use Rattle.hls_text.specs.Lines.{Text}
use Rattle.hls_report_text.specs.ReportText.{with_end, ended}
use Rattle.hls_sched.specs.Seen.{Seen}
use Rattle.hls_machine.specs.Hierarchy.{Hierarchy}
use Rattle.hls_tree.specs.Trees.{IsTreeOf}
use Rattle.hls_tree.specs.declared.tree.Tree.{Tree}
use Rattle.hls_offer_text.specs.OfferText.{Free, free_text}
use Rattle.hls_offer.specs.Spare.{IsFree, AreFree}
use Rattle.hls_offer.specs.Inside.Lines.{AddsFree, AddsSome, AddsAll}

free_more : (periods : List ℕ) (h : Hierarchy) (ks : List ℕ) (frees : List Free) (k : ℕ) (free : Free)
    → AreFree periods h ks frees → IsFree periods (h.nodes k) free
    → AreFree periods h (ks ++ k ∷ []) (frees ++ free ∷ [])
free_more periods h [] [] k free are is = (is, tt)
free_more periods h (one ∷ ks) (two ∷ frees) k free are is = (are.0, free_more periods h ks frees k free are.1 is)
free_more periods h [] (two ∷ frees) k free are is = absurd are
free_more periods h (one ∷ ks) [] k free are is = absurd are

lines_more : (version : ℕ) (frees : List Free) (free : Free) → ended (map (free_text version) (frees ++ free ∷ []))
    ≡ ended (map (free_text version) frees) ++ with_end (free_text version free)
lines_more version [] free = append-nil (with_end (free_text version free))
lines_more version (one ∷ frees) free =
    let line : Free → Text = λ f. with_end (free_text version f) in
    ap (λ (t : Text). line one ++ t) (lines_more version frees free)
    ∙ sym (append_assoc (line one) (ended (map (free_text version) frees)) (line free))

first_more : (ks : List ℕ) (at k : ℕ) → slice_get ks at ≡ Some k → take (at + 1) ks ≡ take at ks ++ k ∷ []
first_more ks at k e =
    take_more ks at k (slice_get_within ks at k e)
    ∙ ap (λ (n : ℕ). take at ks ++ n ∷ []) (get_or_from_slice_get ks at k k e)

-- a listed scheduler is loaded
scheduler_loaded : (node : Option Node) → is_scheduler node ≡ true → IsLoaded node
scheduler_loaded None e = absurd (cc)
scheduler_loaded (Some (Loaded s)) e = record { scheduler = s; there = refl }
scheduler_loaded (Some (Admitted t)) e = absurd (cc)

pub listed_loaded : (h : Hierarchy) → IsListed h → (at k : ℕ) → slice_get h.schedulers at ≡ Some k
    → IsLoaded (h.nodes k)
listed_loaded h listed at k e =
    scheduler_loaded (h.nodes k) (listed.schedulers.only k
    (at, slice_get_within h.schedulers at k e, get_or_from_slice_get h.schedulers at k k e))

-- what the ports of a scheduler are guaranteed is within the limits
narrow_valid : (haves : List Guarantee) → All IsNarrow haves → AllByRecursion (λ g. IsValid g) haves
narrow_valid [] all = tt
narrow_valid (g ∷ haves) all =
    (valid_narrow g (All-head IsNarrow g haves all), narrow_valid haves (All-tail IsNarrow g haves all))

pub valid_haves : (h : Hierarchy) → IsReached h → (k : ℕ) → IsLoaded (h.nodes k)
    → AllByRecursion (λ g. IsValid g) (haves_of (h.nodes k))
valid_haves h reached k is = narrow_valid (haves_of (h.nodes k)) (fit_at h reached (Some k) is).narrow

module _ {V : Type 0} {P : V → Type 0} (seen : (x : V) × P x → Seen) (version : ℕ) (t : Tree V P)
    (periods : List ℕ) where
  pub none_yet : (old : Text) → AddsSome seen version t periods 0 old old
  none_yet old = record { frees = []; text = sym (append-nil old); are = λ h tree. tt }

  pub one_more : (at k : ℕ) (old mid new : Text) → ((h : Hierarchy) → IsTreeOf seen t h
      → slice_get h.schedulers at ≡ Some k)
      → AddsSome seen version t periods at old mid → AddsFree seen version t periods k mid new
      → AddsSome seen version t periods (at + 1) old new
  one_more at k old mid new there some one = record {
    frees = some.frees ++ one.free ∷ [];
    text = one.text ∙ ap (λ (x : Text). x ++ with_end (free_text version one.free)) some.text
        ∙ append_assoc old (ended (map (free_text version) some.frees)) (with_end (free_text version one.free))
        ∙ ap (λ (x : Text). old ++ x) (sym (lines_more version some.frees one.free));
    are = λ h tree. subst (λ (ks : List ℕ). AreFree periods h ks (some.frees ++ one.free ∷ []))
        (sym (first_more h.schedulers at k (there h tree)))
        (free_more periods h (take at h.schedulers) some.frees k one.free (some.are h tree) (one.is h tree));
  }

  pub all_told : (at : ℕ) (old new : Text) → ((h : Hierarchy) → IsTreeOf seen t h → length h.schedulers ≤ at)
      → AddsSome seen version t periods at old new → AddsAll seen version t periods old new
  all_told at old new past some = record {
    frees = some.frees;
    text = some.text;
    are = λ h tree. subst (λ (ks : List ℕ). AreFree periods h ks some.frees)
        (take_all at h.schedulers (past h tree)) (some.are h tree);
  }

  pub free_line : {E : Type 0} (k : ℕ) (old new : Text) (result : Result (Unit {0}) E) (free : Free)
      → OnOk result (new ≡ old ++ with_end (free_text version free))
      → ((h : Hierarchy) → IsTreeOf seen t h → IsFree periods (h.nodes k) free)
      → OnOk result (AddsFree seen version t periods k old new)
  free_line k old new (Ok done) free text is = record { free = free; text = text; is = is }
  free_line k old new (Err error) free text is = tt
