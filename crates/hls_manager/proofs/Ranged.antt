-- Where a legal run leads, seats have numbers in their ranges, and a scheduler has one for each of its ports.
use Rattle.std.proofs.Common.{◌≡◌, ℕ, zero, suc, List, [], ◌∷◌, ◌++◌, Option, Some, None, Bool}
use Rattle.std.proofs.Common.{true, false, refl, sym, subst, slice_get, length}
use Rattle.std.specs.Prelude.{if◌then◌else◌, ◌==◌}
use Rattle.hls_chron.specs.declared.book.Event.{Event}
use Rattle.hls_chron.specs.Kinds.{port_count}
use Rattle.hls_chron.specs.Ranges.{ConfigInRange}
use Rattle.hls_machine.specs.Hierarchy.{Hierarchy, Node, Loaded, Admitted, Seat, Wake, Asleep, Place, start, seats_of}
use Rattle.hls_machine.specs.Steps.{Step, Refuse, Load, Admit, End, Unload, Move, Rouse, Block, Elapse, Hop}
use Rattle.hls_machine.specs.Steps.{after, state, effect, nobody, marked, renewed, reseated, roused, ticked}
use Rattle.hls_machine.specs.Steps.{wake_by, hop_at, hops_of, leavings, seatings}
use Rattle.hls_machine.specs.Legal.{SeatInRange, MayMoveTo, Can, IsLegal, IsReached}
use Rattle.hls_chron.proofs.ConfigLaws.{one_port}

abbrev pub AreInRange : List Seat → Type 0
AreInRange seats = (port : ℕ) (seat : Seat) → slice_get seats port ≡ Some seat → SeatInRange seat

abbrev pub IsRangedNode : Option Node → Type 0
IsRangedNode None = Unit {0}
IsRangedNode (Some (Loaded s)) = AreInRange s.ports × (length s.ports ≡ port_count s.config) × ConfigInRange s.config
IsRangedNode (Some (Admitted t)) = SeatInRange t.seat

abbrev pub AllRanged : Hierarchy → Type 0
AllRanged h = (k : ℕ) → IsRangedNode (h.nodes k)

ranged_marked : (es : List Event) (node : Option Node) → IsRangedNode node → IsRangedNode (marked es node)
ranged_marked es None has = tt
ranged_marked es (Some (Loaded s)) has = has
ranged_marked es (Some (Admitted t)) has = has

ranged_renewed : (b : Bool) (now : ℕ) (node : Option Node) → IsRangedNode node → IsRangedNode (renewed b now node)
ranged_renewed false now any has = has
ranged_renewed true now None has = tt
ranged_renewed true now (Some (Loaded s)) has = has
ranged_renewed true now (Some (Admitted t)) has = has

lone_range : (seat : Seat) → SeatInRange seat → AreInRange (seat ∷ [])
lone_range seat is zero other e = (let same : seat ≡ other = cc in subst (λ (s : Seat). SeatInRange s) same is)
lone_range seat is (suc port) other e = absurd (cc)

ranged_reseated : (seat : Seat) (place : Place) (node : Option Node) → SeatInRange seat → MayMoveTo place node
    → IsRangedNode node → IsRangedNode (reseated seat node)
ranged_reseated seat place None is sort has = tt
ranged_reseated seat place (Some (Loaded s)) is sort has = (lone_range seat is, one_port s.config sort, has.2)
ranged_reseated seat place (Some (Admitted t)) is sort has = is

ranged_roused : (b : Bool) (how : Wake) (node : Option Node) → IsRangedNode node
    → IsRangedNode (if b then roused how node else node)
ranged_roused true how None has = tt
ranged_roused true how (Some (Loaded s)) has = has
ranged_roused true how (Some (Admitted t)) has = has
ranged_roused false how any has = has

ranged_ticked : (mask : ℕ) (hop : Option Hop) (node : Option Node) → IsRangedNode node
    → IsRangedNode (ticked mask hop node)
ranged_ticked mask hop None has = tt
ranged_ticked mask hop (Some (Loaded s)) has = has
ranged_ticked mask hop (Some (Admitted t)) has = has

module _ (h : Hierarchy) (k : ℕ) (node : Option Node) (below : ℕ → Bool) (good : IsRangedNode node)
    (has : AllRanged h) where
  abbrev es : ℕ → List Event
  es c = leavings (seats_of (h.nodes k)) c ++ seatings (seats_of node) c

  inner : (c : ℕ) (b : Bool) → IsRangedNode (if b then node else marked (es c) (h.nodes c))
  inner c true = good
  inner c false = ranged_marked (es c) (h.nodes c) (has c)

  effect_ranged : AllRanged (effect h k node below)
  effect_ranged = λ c.
      ranged_renewed (below c) h.now (if c == k then node else marked (es c) (h.nodes c)) (inner c (c == k))

step_ranged : (h : Hierarchy) (step : Step) → Can h step → AllRanged h → AllRanged (after h step)
step_ranged h Refuse can has = has
step_ranged h (Load k name config spare_ticks spare_marks seats) can has =
    effect_ranged h k _ nobody
    ((λ port seat e. (can.0.places.take port seat e).in_range), can.0.ports, can.0.in_range) has
step_ranged h (Admit k name seat) can has =
    effect_ranged h k _ nobody (can.places.take 0 seat refl).in_range has
step_ranged h (End k) can has = effect_ranged h k None nobody tt has
step_ranged h (Unload k) can has = effect_ranged h k None nobody tt has
step_ranged h (Move k seat below) can has =
    effect_ranged h k (reseated seat (h.nodes k)) below
    (ranged_reseated seat seat.place (h.nodes k) can.0.take.in_range can.0.sort (has k)) has
step_ranged h (Rouse k burst) can has =
    λ c. ranged_roused (c == k) (wake_by burst h.now) (h.nodes c) (has c)
step_ranged h (Block k) can has = λ c. ranged_roused (c == k) Asleep (h.nodes c) (has c)
step_ranged h (Elapse asking masks path) can has =
    λ c. ranged_ticked (masks c) (hop_at (hops_of path) c) (h.nodes c) (has c)

run_ranged : (steps : List Step) (h : Hierarchy) → IsLegal h steps → AllRanged h → AllRanged (state h steps)
run_ranged [] h legal has = has
run_ranged (step ∷ steps) h legal has =
    run_ranged steps (after h step) legal.1 (step_ranged h step legal.0 has)

pub legal_ranged : (steps : List Step) → IsLegal start steps → AllRanged (state start steps)
legal_ranged steps legal = run_ranged steps start legal (λ k. tt)

pub reached_ranged : (h : Hierarchy) → IsReached h → AllRanged h
reached_ranged h is = subst (λ (g : Hierarchy). AllRanged g) (sym is.leads) (legal_ranged is.past is.legal)
