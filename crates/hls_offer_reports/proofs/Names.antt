-- Whoever is there where a legal run leads has a name.
use Rattle.std.proofs.Common.{◌≡◌, ℕ, ◌==◌, inl, inr, Bool, true, false, List, [], ◌∷◌, sym, ◌∙◌, subst}
use Rattle.std.proofs.Common.{if◌then◌else◌, refl}
use Rattle.std.specs.Prelude.{Option, Some, None}
use Rattle.std.proofs.lemmas.Bool.{cases_eq}
use Rattle.hls_text.specs.Lines.{Text}
use Rattle.hls_chron.specs.Name.{IsName}
use Rattle.hls_machine.specs.Hierarchy.{Hierarchy, Node, Loaded, Admitted, Wake, Asleep, name_of, start}
use Rattle.hls_machine.specs.Steps.{Step, Refuse, Load, Admit, End, Unload, Move, Rouse, Block, Elapse, after, state}
use Rattle.hls_machine.specs.Steps.{admitted, effect, hop_at, hops_of, loaded, nobody, reseated, roused, wake_by}
use Rattle.hls_machine.specs.Steps.{with_wake}
use Rattle.hls_machine.specs.Legal.{Can, IsLegal}
use Rattle.hls_legal.proofs.Alike.{alike_other, alike_same, alike-ticked, almost-roused, moved-reseated}

abbrev pub AreNames : Hierarchy → Type 0
AreNames h = (k : ℕ) (name : Text) → name_of (h.nodes k) ≡ Some name → IsName name

same_name : (name other : Text) → Some name ≡ Some other → name ≡ other
same_name name other e = cc

no_name : (name : Text) → None ≡ Some name → ⊥
no_name name e = cc

made_names : (h : Hierarchy) (k : ℕ) (node : Option Node) (below : ℕ → Bool) → AreNames h
    → ((name : Text) → name_of node ≡ Some name → IsName name) → AreNames (effect h k node below)
made_names h k node below are new c name e =
    elim (cases_eq c k) [
      | inl same ↦ new name (sym (alike_same h k node below c same).name ∙ e)
      | inr other ↦ are c name (sym (alike_other h k node below c other).name ∙ e)
    ]

roused_name : (b : Bool) (how : Wake) (old : Option Node)
    → name_of (if b then roused how old else old) ≡ name_of old
roused_name true how old = (almost-roused how old).name
roused_name false how old = refl

woken_names : (h : Hierarchy) (k : ℕ) (how : Wake) → AreNames h → AreNames (with_wake h k how)
woken_names h k how are c name e = are c name (sym (roused_name (c == k) how (h.nodes c)) ∙ e)

step_names : (h : Hierarchy) (step : Step) → AreNames h → Can h step → AreNames (after h step)
step_names h Refuse are can = are
step_names h (Load k made config ticks marks ports) are can =
    made_names h k (Some (Loaded (loaded h.now made config ticks marks ports))) nobody are
    (λ name e. subst IsName (same_name made name e) can.0.new.named)
step_names h (Admit k made seat) are can =
    made_names h k (Some (Admitted (admitted h.now made seat))) nobody are
    (λ name e. subst IsName (same_name made name e) can.new.named)
step_names h (End k) are can = made_names h k None nobody are (λ name e. absurd (no_name name e))
step_names h (Unload k) are can = made_names h k None nobody are (λ name e. absurd (no_name name e))
step_names h (Move k seat below) are can =
    made_names h k (reseated seat (h.nodes k)) below are
    (λ name e. are k name (sym (moved-reseated seat (h.nodes k)).name ∙ e))
step_names h (Rouse k burst) are can = woken_names h k (wake_by burst h.now) are
step_names h (Block k) are can = woken_names h k Asleep are
step_names h (Elapse asking masks path) are can = λ c name e.
    are c name (sym (alike-ticked (masks c) (hop_at (hops_of path) c) (h.nodes c)).name ∙ e)

run_names : (steps : List Step) (h : Hierarchy) → AreNames h → IsLegal h steps → AreNames (state h steps)
run_names [] h are legal = are
run_names (step ∷ steps) h are legal = run_names steps (after h step) (step_names h step are legal.0) legal.1

pub legal_names : (steps : List Step) → IsLegal start steps → AreNames (state start steps)
legal_names steps legal = run_names steps start (λ k name e. absurd (no_name name e)) legal
