-- Trees in which nobody is behind, and what calls leave of who is.
use Rattle.std.proofs.Common.{◌≡◌, ℕ, ◌≤◌, Bool, true, false, List, Option, Some, None, sym, ap, ◌∙◌, subst}
use Rattle.std.proofs.Math.Path.{fun_ext}
use Rattle.std.specs.declared.dyn_box.DynBox.{DynBox}
use Rattle.std.specs.declared.alloc.Global.{Global}
use Rattle.hls_sched.specs.Boxed.{boxed}
use Rattle.hls_sched.specs.Seen.{Seen}
use Rattle.hls_machine.specs.Hierarchy.{Hierarchy}
use Rattle.hls_tree_nodes.specs.Shown.{PostedIn, asks_in}
use Rattle.hls_tree_nodes.specs.Behind.{late, LagsIn, behind_at}
use Rattle.hls_tree_nodes.specs.Known.{has_bit}
use Rattle.hls_tree_nodes.specs.Late.{IsLate, IsQuiet, AreQuiet, AreBehind, StaysLate}
use Rattle.hls_tree_nodes.specs.Views.{shown_at, stored_at}
use Rattle.hls_tree_nodes.specs.declared.known.Known.{Known}
use Rattle.hls_tree_nodes.specs.declared.nodes.Nodes.{Nodes}
use Rattle.hls_tree_nodes.proofs.Behind.{late_flat}
use Rattle.hls_tree_nodes.proofs.Late.{quiet_stays}
use Rattle.hls_tree_passes.proofs.Silent.{zero_off}
use Rattle.hls_tree.specs.Trees.{IsTreeOf, IsReadyOf, Stands, ready_of}
use Rattle.hls_tree.specs.declared.tree.Tree.{Tree}

-- no place of the list has a bit
no_bit : (bits at : ℕ) → bits ≡ 0 → has_bit bits at ≡ true → ⊥
no_bit bits at none on =
    let clash : true ≡ false = sym on ∙ ap (λ b. has_bit b at) none ∙ zero_off at in cc

-- V and P are what the checker knows a box by
module _ {V : Type 0} {P : V → Type 0} (show : DynBox V Global P → Seen) where
  flat_by : (nodes : Nodes V P) (behind : Bool) → behind ≡ false → (k : ℕ)
      → late behind nodes.tick (stored_at show nodes.slab k) ≡ stored_at show nodes.slab k
  flat_by nodes false off k = late_flat nodes.tick (stored_at show nodes.slab k)
  flat_by nodes true off k = cc

  -- where nobody may be behind, what is shown is what is stored
  pub flat : (nodes : Nodes V P) → nodes.behind ≡ false → shown_at show nodes ≡ stored_at show nodes.slab
  flat nodes off = fun_ext (flat_by nodes nodes.behind off)

  module _ (old new : Nodes V P) (behind : new.behind ≡ old.behind) (tick : new.tick ≡ old.tick)
      (quiet : new.quiet ≡ old.quiet)
      (stored : (k : ℕ) → stored_at show new.slab k ≡ stored_at show old.slab k) where
    pub shown_same : (k : ℕ) → shown_at show new k ≡ shown_at show old k
    shown_same k = λ i. late (behind i) (tick i) (stored k i)

    pub late_same : IsLate show old → IsLate show new
    late_same x = record {
      lags = λ on k. subst (λ o. LagsIn new.tick o) (sym (stored k))
          (subst (λ n. LagsIn n (stored_at show old.slab k)) (sym tick) (x.lags (sym behind ∙ on) k));
      off = λ off. quiet ∙ x.off (sym behind ∙ off);
    }

    quiet_known : (l : List ℕ) (voices : ℕ) → IsQuiet show old l voices → IsQuiet show new l voices
    quiet_known l voices x = record {
      behind = behind ∙ x.behind;
      there = λ at c lt on is. ap behind_at (stored c)
          ∙ x.there at c lt (ap (λ bits. has_bit bits at) (sym quiet) ∙ on) is;
      asks = λ at c lt on is. ap asks_in (stored c)
          ∙ x.asks at c lt (ap (λ bits. has_bit bits at) (sym quiet) ∙ on) is;
    }

    pub quiet_same : (l : List ℕ) (known : Option Known) → AreQuiet show old l known → AreQuiet show new l known
    quiet_same l None x = behind ∙ x
    quiet_same l (Some known) x = quiet_known l known.voices x

  -- where nothing changed but who is behind and what they know
  pub quiet_stayed : (old new : Nodes V P) (l : List ℕ) (known : Option Known) → StaysLate show old new
      → AreQuiet show old l known → AreQuiet show new l known
  quiet_stayed old new l None stays x = stays.behind ∙ x
  quiet_stayed old new l (Some known) stays x = quiet_stays show old new l known.voices x stays

  -- who is quiet is behind
  pub behind_of : (nodes : Nodes V P) (l : List ℕ) (known : Option Known) → IsLate show nodes
      → AreQuiet show nodes l known → AreBehind show nodes l
  behind_of nodes l None late x = λ at c lt on is. absurd (no_bit nodes.quiet at (late.off x) on)
  behind_of nodes l (Some known) late x = x.there

module _ {V : Type 0} {P : V → Type 0} (seen : (x : V) × P x → Seen) where
  -- what a tree says of who is behind
  pub record AreLate (t : Tree V P) : Type 0 where
    pub late : IsLate (boxed seen) t.nodes
    pub quiet : AreQuiet (boxed seen) t.nodes t.schedulers.items t.known
    pub clock : t.nodes.tick ≤ t.tick

  pub quiet_none : (t : Tree V P) (known : Option Known) → t.nodes.behind ≡ false → known ≡ None
      → AreQuiet (boxed seen) t.nodes t.schedulers.items known
  quiet_none t None off none = off
  quiet_none t (Some known) off none = cc

  -- where nobody is behind before a call, nor after it
  pub flat_late : (old new : Tree V P) (h : Hierarchy) → IsTreeOf seen old h → old.nodes.behind ≡ false
      → new.nodes.behind ≡ old.nodes.behind → new.nodes.tick ≡ old.nodes.tick → new.nodes.quiet ≡ old.nodes.quiet
      → new.tick ≡ old.tick → new.known ≡ None → AreLate new
  flat_late old new h t up behind clock quiet tick known =
      let off : new.nodes.behind ≡ false = behind ∙ up in
      record {
        late = record {
          lags = λ on. absurd (let clash : true ≡ false = sym on ∙ off in cc);
          off = λ o. quiet ∙ t.late.off up;
        };
        quiet = quiet_none new new.known off known;
        clock = rw (clock, tick) t.clock;
      }

  -- a tree that is of the same hierarchies
  abbrev pub stands_to : (old new : Tree V P) (Is : Hierarchy → Type 0)
      → ((h : Hierarchy) → IsTreeOf seen old h → IsTreeOf seen new h) → Stands seen old Is → Stands seen new Is
  stands_to old new Is tree x =
      record { h = x.h; tree = tree x.h x.tree; seated = x.seated; listed = x.listed; is = x.is }

  pub ready_to : (old new : Tree V P) → ((k : ℕ) → ready_of seen new k ≡ ready_of seen old k) → (h : Hierarchy)
      → IsReadyOf seen old h → IsReadyOf seen new h
  ready_to old new ready h r = λ k t e. r k t e ∙ sym (ready k)

  pub flat_posted : (t : Tree V P) (Is : Hierarchy → Type 0) → t.nodes.behind ≡ false → Stands seen t Is → (k : ℕ)
      → PostedIn (stored_at (boxed seen) t.nodes.slab k)
  flat_posted t Is up x =
      subst (λ s. (k : ℕ) → PostedIn (s k)) (flat (boxed seen) t.nodes up) x.tree.of.posted
