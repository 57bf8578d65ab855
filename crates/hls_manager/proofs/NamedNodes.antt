-- Where a legal run leads, each name is a name.
use Rattle.std.proofs.Common.{◌≡◌, ℕ, List, [], ◌∷◌, ◌++◌, Option, Some, None, Bool, true, false, subst, sym}
use Rattle.std.specs.Prelude.{if◌then◌else◌, ◌==◌}
use Rattle.hls_text.specs.Lines.{Text}
use Rattle.hls_chron.specs.Name.{IsName}
use Rattle.hls_chron.specs.declared.book.Event.{Event}
use Rattle.hls_machine.specs.Hierarchy.{Hierarchy, Node, Loaded, Admitted, Seat, Wake, Asleep, start, name_of, seats_of}
use Rattle.hls_machine.specs.Steps.{Step, Refuse, Load, Admit, End, Unload, Move, Rouse, Block, Elapse, Hop}
use Rattle.hls_machine.specs.Steps.{after, state, effect, nobody, marked, renewed, reseated, roused, ticked}
use Rattle.hls_machine.specs.Steps.{wake_by, hop_at, hops_of, leavings, seatings}
use Rattle.hls_machine.specs.Legal.{Can, IsLegal}
use Rattle.hls_machine.specs.Legal.{IsReached}

abbrev IsNamedNode : Option Node → Type 0
IsNamedNode None = Unit {0}
IsNamedNode (Some (Loaded s)) = IsName s.name
IsNamedNode (Some (Admitted t)) = IsName t.name

abbrev AllNamed : Hierarchy → Type 0
AllNamed h = (k : ℕ) → IsNamedNode (h.nodes k)

named_marked : (es : List Event) (node : Option Node) → IsNamedNode node → IsNamedNode (marked es node)
named_marked es None has = tt
named_marked es (Some (Loaded s)) has = has
named_marked es (Some (Admitted t)) has = has

named_renewed : (b : Bool) (now : ℕ) (node : Option Node) → IsNamedNode node → IsNamedNode (renewed b now node)
named_renewed false now any has = has
named_renewed true now None has = tt
named_renewed true now (Some (Loaded s)) has = has
named_renewed true now (Some (Admitted t)) has = has

named_reseated : (seat : Seat) (node : Option Node) → IsNamedNode node → IsNamedNode (reseated seat node)
named_reseated seat None has = tt
named_reseated seat (Some (Loaded s)) has = has
named_reseated seat (Some (Admitted t)) has = has

named_roused : (b : Bool) (how : Wake) (node : Option Node) → IsNamedNode node
    → IsNamedNode (if b then roused how node else node)
named_roused true how None has = tt
named_roused true how (Some (Loaded s)) has = has
named_roused true how (Some (Admitted t)) has = has
named_roused false how any has = has

named_ticked : (mask : ℕ) (hop : Option Hop) (node : Option Node) → IsNamedNode node
    → IsNamedNode (ticked mask hop node)
named_ticked mask hop None has = tt
named_ticked mask hop (Some (Loaded s)) has = has
named_ticked mask hop (Some (Admitted t)) has = has

module _ (h : Hierarchy) (k : ℕ) (node : Option Node) (below : ℕ → Bool) (good : IsNamedNode node)
    (has : AllNamed h) where
  abbrev es : ℕ → List Event
  es c = leavings (seats_of (h.nodes k)) c ++ seatings (seats_of node) c

  inner : (c : ℕ) (b : Bool) → IsNamedNode (if b then node else marked (es c) (h.nodes c))
  inner c true = good
  inner c false = named_marked (es c) (h.nodes c) (has c)

  effect_named : AllNamed (effect h k node below)
  effect_named = λ c.
      named_renewed (below c) h.now (if c == k then node else marked (es c) (h.nodes c)) (inner c (c == k))

step_named : (h : Hierarchy) (step : Step) → Can h step → AllNamed h → AllNamed (after h step)
step_named h Refuse can has = has
step_named h (Load k name config spare_ticks spare_marks seats) can has =
    effect_named h k _ nobody can.0.new.named has
step_named h (Admit k name seat) can has = effect_named h k _ nobody can.new.named has
step_named h (End k) can has = effect_named h k None nobody tt has
step_named h (Unload k) can has = effect_named h k None nobody tt has
step_named h (Move k seat below) can has =
    effect_named h k (reseated seat (h.nodes k)) below (named_reseated seat (h.nodes k) (has k)) has
step_named h (Rouse k burst) can has =
    λ c. named_roused (c == k) (wake_by burst h.now) (h.nodes c) (has c)
step_named h (Block k) can has = λ c. named_roused (c == k) Asleep (h.nodes c) (has c)
step_named h (Elapse asking masks path) can has =
    λ c. named_ticked (masks c) (hop_at (hops_of path) c) (h.nodes c) (has c)

run_named : (steps : List Step) (h : Hierarchy) → IsLegal h steps → AllNamed h → AllNamed (state h steps)
run_named [] h legal has = has
run_named (step ∷ steps) h legal has =
    run_named steps (after h step) legal.1 (step_named h step legal.0 has)

name_is : (node : Option Node) (name : Text) → IsNamedNode node → name_of node ≡ Some name → IsName name
name_is None name is e = absurd (cc)
name_is (Some (Loaded s)) name is e = (let same : s.name ≡ name = cc in subst (λ (n : Text). IsName n) same is)
name_is (Some (Admitted t)) name is e = (let same : t.name ≡ name = cc in subst (λ (n : Text). IsName n) same is)

pub reached_name : (h : Hierarchy) → IsReached h → (k : ℕ) (name : Text) → name_of (h.nodes k) ≡ Some name
    → IsName name
reached_name h is k name e =
    name_is (h.nodes k) name
    (subst (λ (g : Hierarchy). AllNamed g) (sym is.leads) (run_named is.past start is.legal (λ c. tt)) k) e
