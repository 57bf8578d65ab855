-- The threads that are a node or below it.
use Rattle.std.proofs.Common.{◌≡◌, ◌≢◌, ℕ, ◌+◌, List, [], ◌∷◌, ◌++◌, Bool, true, false, cond, length, sym, ap, ◌∙◌}
use Rattle.std.proofs.Common.{filter, take, ◌≤◌, inl, inr, subst}
use Rattle.std.specs.Prelude.{Option, Some, None, slice_get}
use Rattle.std.proofs.lemmas.Bool.{cases_Bool}
use Rattle.std.proofs.lemmas.List.{append-nil}
use Rattle.std.proofs.lemmas.List.Elements.{filter-append}
use Rattle.hls_sched.specs.Seen.{Seen}
use Rattle.hls_machine.specs.Hierarchy.{Hierarchy}
use Rattle.hls_machine.specs.Readings.{IsUnder}
use Rattle.hls_tree.specs.Trees.{Stands, Any}
use Rattle.hls_tree.specs.declared.tree.Tree.{Tree}
use Rattle.hls_text.specs.Lines.{Text}
use Rattle.hls_scenario.specs.declared.scenario.Command.{Command}
use Rattle.hls_scenario.specs.declared.scenario.Command.TheVariants as said
use Rattle.hls_core_stays.specs.Turnovers.{TellsBelow, IsRoused, IsTurnover}
use Rattle.hls_core_stays.specs.declared.turnover.Turnover.{Turnover}
use Rattle.hls_core_stays.proofs.Lists.{take_next, take_all}

-- V and P are what the checker knows a box by
pub any_stands : {V : Type 0} {P : V → Type 0} (seen : (x : V) × P x → Seen) (t : Tree V P) (id : ℕ)
    → Stands seen t (λ h. h.nodes id ≢ None) → Stands seen t Any
any_stands seen t id x = record { h = x.h; tree = x.tree; seated = x.seated; listed = x.listed; is = tt }

filter_one : (below : ℕ → Bool) (k : ℕ) (b : Bool) → below k ≡ b → filter below (k ∷ []) ≡ cond b (k ∷ []) []
filter_one below k b e = ap (λ x. cond x (k ∷ []) []) e

next_under : (below : ℕ → Bool) (ks : List ℕ) (at k : ℕ) (b : Bool) → slice_get ks at ≡ Some k → below k ≡ b
    → filter below (take (at + 1) ks) ≡ filter below (take at ks) ++ cond b (k ∷ []) []
next_under below ks at k b e is =
    ap (filter below) (take_next ks at k e) ∙ filter-append below (take at ks) (k ∷ [])
    ∙ ap (λ l. filter below (take at ks) ++ l) (filter_one below k b is)

pub under_next : (h : Hierarchy) (below : ℕ → Bool) (id at k : ℕ) (kept new : List ℕ) → TellsBelow h id below
    → slice_get h.threads at ≡ Some k → IsUnder h id k → kept ≡ filter below (take at h.threads)
    → new ≡ kept ++ k ∷ [] → new ≡ filter below (take (at + 1) h.threads)
under_next h below id at k kept new tells e under are push =
    push ∙ ap (λ l. l ++ k ∷ []) are ∙ sym (next_under below h.threads at k true e ((tells k).1 under))

not_told : (h : Hierarchy) (below : ℕ → Bool) (id k : ℕ) → TellsBelow h id below → ¬ IsUnder h id k → below k ≡ false
not_told h below id k tells not = elim (cases_Bool (below k)) [
  | inl on ↦ absurd (not ((tells k).0 on))
  | inr off ↦ off
]

pub under_skip : (h : Hierarchy) (below : ℕ → Bool) (id at k : ℕ) (kept : List ℕ) → TellsBelow h id below
    → slice_get h.threads at ≡ Some k → ¬ IsUnder h id k → kept ≡ filter below (take at h.threads)
    → kept ≡ filter below (take (at + 1) h.threads)
under_skip h below id at k kept tells e not are =
    are ∙ sym (append-nil (filter below (take at h.threads)))
    ∙ sym (next_under below h.threads at k false e (not_told h below id k tells not))

pub under_all : (h : Hierarchy) (below : ℕ → Bool) (at : ℕ) (kept : List ℕ) → length h.threads ≤ at
    → kept ≡ filter below (take at h.threads) → kept ≡ filter below h.threads
under_all h below at kept le are = are ∙ ap (filter below) (take_all h.threads at le)

pub roused_wake : (h : Hierarchy) (command : Command) (name : Text) (every burst : Option ℕ)
    (turnover : Turnover) → command ≡ said.Wake name every burst → IsRoused h name turnover
    → IsTurnover h command turnover
roused_wake h command name every burst turnover is of = subst (λ k. IsTurnover h k turnover) (sym is) of

pub roused_block : (h : Hierarchy) (command : Command) (name : Text) (turnover : Turnover)
    → command ≡ said.Block name → IsRoused h name turnover → IsTurnover h command turnover
roused_block h command name turnover is of = subst (λ k. IsTurnover h k turnover) (sym is) of
