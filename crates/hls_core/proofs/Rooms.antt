-- A command makes two marks at most on each book, and a tick none.
use Rattle.std.proofs.Common.{◌≡◌, ℕ, zero, suc, inl, inr, ◌+◌, ◌-◌, ◌*◌, ◌≤◌, ◌<◌, List, [], ◌∷◌, ◌++◌}
use Rattle.std.proofs.Common.{Option, Some, None, Bool, true, false, refl, ap, subst, length}
use Rattle.std.proofs.Common.{arith, ◌==◌}
use Rattle.std.specs.Prelude.{if◌then◌else◌}
use Rattle.std.proofs.lemmas.Bool.{cases_eq, eq-eqb, ne_eqb}
use Rattle.std.proofs.lemmas.List.{length-append}
use Rattle.hls_chron.specs.declared.book.Event.{Event}
use Rattle.hls_chron.specs.declared.plain.Terms.{Terms}
use Rattle.hls_chron.specs.Ledger.{Ledger, with_mark}
use Rattle.hls_machine.specs.Ledgers.{with_marks}
use Rattle.hls_machine.specs.Hierarchy.{Hierarchy, Place, Processor, At, Node, Loaded, Admitted, Seat, Wake}
use Rattle.hls_machine.specs.Hierarchy.{Asleep, start, seats_of}
use Rattle.hls_machine.specs.Steps.{Step, Refuse, Load, Admit, End, Unload, Move, Rouse, Block, Elapse, Hop, Path}
use Rattle.hls_machine.specs.Steps.{loaded, admitted}
use Rattle.hls_machine.specs.Steps.{after, state, effect, nobody, marked, renewed, reseated, roused, ticked}
use Rattle.hls_machine.specs.Steps.{wake_by, hop_at, hops_of, leaving_at, leavings, seating_at, seatings}
use Rattle.hls_machine.specs.Legal.{Can, IsLegal, NotBelow}
use Rattle.hls_machine.proofs.Admissions.{OneEach, SeatsOn, Nowhere, Once, seats_on}
use Rattle.hls_manager.specs.Outcomes.{IsRoomy, HasMarkRoom}
use Rattle.hls_core.specs.Marks.{HasMarksFor}

-- ---- the seats of a node are on different schedulers

abbrev IsApartNode : Option Node → Type 0
IsApartNode None = Unit {0}
IsApartNode (Some (Loaded s)) = OneEach s.ports
IsApartNode (Some (Admitted t)) = Unit {0}

abbrev pub AllApart : Hierarchy → Type 0
AllApart h = (k : ℕ) → IsApartNode (h.nodes k)

lone_apart : (seat : Seat) → OneEach (seat ∷ [])
lone_apart seat zero zero one two e f g = refl
lone_apart seat zero (suc other) one two e f g = absurd (cc)
lone_apart seat (suc port) other one two e f g = absurd (cc)

none_apart : OneEach []
none_apart port other one two e f g = absurd (cc)

seats_apart : (node : Option Node) → IsApartNode node → OneEach (seats_of node)
seats_apart None is = none_apart
seats_apart (Some (Loaded s)) is = is
seats_apart (Some (Admitted t)) is = lone_apart t.seat

apart_marked : (es : List Event) (node : Option Node) → IsApartNode node → IsApartNode (marked es node)
apart_marked es None has = tt
apart_marked es (Some (Loaded s)) has = has
apart_marked es (Some (Admitted t)) has = tt

apart_renewed : (b : Bool) (now : ℕ) (node : Option Node) → IsApartNode node → IsApartNode (renewed b now node)
apart_renewed false now any has = has
apart_renewed true now None has = tt
apart_renewed true now (Some (Loaded s)) has = has
apart_renewed true now (Some (Admitted t)) has = tt

apart_reseated : (seat : Seat) (node : Option Node) → IsApartNode (reseated seat node)
apart_reseated seat None = tt
apart_reseated seat (Some (Loaded s)) = lone_apart seat
apart_reseated seat (Some (Admitted t)) = tt

apart_roused : (b : Bool) (how : Wake) (node : Option Node) → IsApartNode node
    → IsApartNode (if b then roused how node else node)
apart_roused true how None has = tt
apart_roused true how (Some (Loaded s)) has = has
apart_roused true how (Some (Admitted t)) has = tt
apart_roused false how any has = has

apart_ticked : (mask : ℕ) (hop : Option Hop) (node : Option Node) → IsApartNode node
    → IsApartNode (ticked mask hop node)
apart_ticked mask hop None has = tt
apart_ticked mask hop (Some (Loaded s)) has = has
apart_ticked mask hop (Some (Admitted t)) has = tt

module _ (h : Hierarchy) (k : ℕ) (node : Option Node) (below : ℕ → Bool) where
  abbrev es : ℕ → List Event
  es c = leavings (seats_of (h.nodes k)) c ++ seatings (seats_of node) c

  apart_here : IsApartNode node → AllApart h → (c : ℕ) (b : Bool)
      → IsApartNode (if b then node else marked (es c) (h.nodes c))
  apart_here good has c true = good
  apart_here good has c false = apart_marked (es c) (h.nodes c) (has c)

  effect_apart : IsApartNode node → AllApart h → AllApart (effect h k node below)
  effect_apart good has = λ c.
      apart_renewed (below c) h.now (if c == k then node else marked (es c) (h.nodes c))
      (apart_here good has c (c == k))

step_apart : (h : Hierarchy) (step : Step) → Can h step → AllApart h → AllApart (after h step)
step_apart h Refuse can has = has
step_apart h (Load k name config spare_ticks spare_marks seats) can has =
    effect_apart h k _ nobody can.0.places.apart has
step_apart h (Admit k name seat) can has = effect_apart h k _ nobody tt has
step_apart h (End k) can has = effect_apart h k None nobody tt has
step_apart h (Unload k) can has = effect_apart h k None nobody tt has
step_apart h (Move k seat below) can has =
    effect_apart h k (reseated seat (h.nodes k)) below (apart_reseated seat (h.nodes k)) has
step_apart h (Rouse k burst) can has =
    λ c. apart_roused (c == k) (wake_by burst h.now) (h.nodes c) (has c)
step_apart h (Block k) can has = λ c. apart_roused (c == k) Asleep (h.nodes c) (has c)
step_apart h (Elapse asking masks path) can has =
    λ c. apart_ticked (masks c) (hop_at (hops_of path) c) (h.nodes c) (has c)

run_apart : (steps : List Step) (h : Hierarchy) → IsLegal h steps → AllApart h → AllApart (state h steps)
run_apart [] h legal has = has
run_apart (step ∷ steps) h legal has =
    run_apart steps (after h step) legal.1 (step_apart h step legal.0 has)

pub legal_apart : (steps : List Step) → IsLegal start steps → AllApart (state start steps)
legal_apart steps legal = run_apart steps start legal (λ k. tt)

-- ---- one mark at most for these seats

few_on : (seats : List Seat) (k : ℕ) → SeatsOn seats k → length (seatings seats k) ≤ 1
few_on seats k (Nowhere none) = (let e = ap (λ (es : List Event). length es) none in omega (arith, e))
few_on seats k (Once port seat slot is there one) =
    (let e = ap (λ (es : List Event). length es) one in omega (arith, e))

few_seatings : (seats : List Seat) (k : ℕ) → OneEach seats → length (seatings seats k) ≤ 1
few_seatings seats k apart = few_on seats k (seats_on seats k apart)

-- as many marks where they are left
as_many_at : (seat : Seat) (place : Place) (k : ℕ)
    → length (leaving_at k place) ≡ length (seating_at k seat.terms place)
as_many_at seat Processor k = refl
as_many_at seat (At p slot) k = elim (cases_eq p k) [
  | inl here ↦ rw (eq-eqb p k here) refl
  | inr away ↦ rw (ne_eqb p k away) refl
]

as_many : (seats : List Seat) (k : ℕ) → length (leavings seats k) ≡ length (seatings seats k)
as_many [] k = refl
as_many (seat ∷ seats) k =
    let one = as_many_at seat seat.place k in
    let more = as_many seats k in
    let left = length-append (leaving_at k seat.place) (leavings seats k) in
    let right = length-append (seating_at k seat.terms seat.place) (seatings seats k) in
    omega (arith, one, more, left, right)

few_leavings : (seats : List Seat) (k : ℕ) → OneEach seats → length (leavings seats k) ≤ 1
few_leavings seats k apart =
    (let few = few_seatings seats k apart in let same = as_many seats k in omega (arith, few, same))

-- a seat that is not below has no mark on what is
none_below : (below : ℕ → Bool) (terms : Terms) (place : Place) (c : ℕ)
    → NotBelow below place → below c ≡ true → length (seating_at c terms place) ≡ 0
none_below below terms Processor c not on = refl
none_below below terms (At p slot) c not on = elim (cases_eq p c) [
  | inl here ↦ absurd (let same = ap below here in cc)
  | inr away ↦ rw (ne_eqb p c away) refl
]

-- ---- room

abbrev HasRoom : (most : ℕ) → Option Node → Type 0
HasRoom most None = Unit {0}
HasRoom most (Some (Loaded s)) = most ≤ s.book.spare_marks
HasRoom most (Some (Admitted t)) = Unit {0}

abbrev marks_of : Bool → ℕ
marks_of true = 1
marks_of false = 0

spare_left : (b : Ledger) (es : List Event) → (with_marks b es).spare_marks ≡ b.spare_marks - length es
spare_left b [] = omega arith
spare_left b (e ∷ es) = (let rest = spare_left (with_mark b e) es in omega (arith, rest))

room_less : (most less : ℕ) (node : Option Node) → less ≤ most → HasRoom most node → HasRoom less node
room_less most less None le has = tt
room_less most less (Some (Loaded s)) le has = omega (arith, le, has)
room_less most less (Some (Admitted t)) le has = tt

room_marked : (most : ℕ) (es : List Event) (node : Option Node) → HasRoom (most + length es) node
    → HasRoom most (marked es node)
room_marked most es None has = tt
room_marked most es (Some (Loaded s)) has = (let left = spare_left s.book es in omega (arith, has, left))
room_marked most es (Some (Admitted t)) has = tt

room_renewed : (most : ℕ) (b : Bool) (now : ℕ) (node : Option Node) → HasRoom (most + marks_of b) node
    → HasRoom most (renewed b now node)
room_renewed most false now any has = room_less (most + 0) most any (omega arith) has
room_renewed most true now None has = tt
room_renewed most true now (Some (Loaded s)) has = omega (arith, has)
room_renewed most true now (Some (Admitted t)) has = tt

room_reseated : (most : ℕ) (seat : Seat) (node : Option Node) → HasRoom most node → HasRoom most (reseated seat node)
room_reseated most seat None has = tt
room_reseated most seat (Some (Loaded s)) has = has
room_reseated most seat (Some (Admitted t)) has = tt

room_roused : (most : ℕ) (b : Bool) (how : Wake) (node : Option Node) → HasRoom most node
    → HasRoom most (if b then roused how node else node)
room_roused most true how None has = tt
room_roused most true how (Some (Loaded s)) has = has
room_roused most true how (Some (Admitted t)) has = tt
room_roused most false how any has = has

room_ticked : (most mask : ℕ) (hop : Option Hop) (node : Option Node) → HasRoom most node
    → HasRoom most (ticked mask hop node)
room_ticked most mask hop None has = tt
room_ticked most mask hop (Some (Loaded s)) has = has
room_ticked most mask hop (Some (Admitted t)) has = tt

few_marks : (b : Bool) → marks_of b ≤ 1
few_marks true = omega arith
few_marks false = omega arith

module _ (h : Hierarchy) (k : ℕ) (node : Option Node) (below : ℕ → Bool) (most : ℕ)
    (good : HasRoom (most + 1) node) (has : (c : ℕ) → HasRoom (most + 2) (h.nodes c))
    (few : (c : ℕ) → length (leavings (seats_of (h.nodes k)) c) + length (seatings (seats_of node) c)
    + marks_of (below c) ≤ 2) where
  abbrev marks : ℕ → List Event
  marks c = leavings (seats_of (h.nodes k)) c ++ seatings (seats_of node) c

  room_here : (c : ℕ) (b : Bool)
      → HasRoom (most + marks_of (below c)) (if b then node else marked (marks c) (h.nodes c))
  room_here c true =
      (let one = few_marks (below c) in
      room_less (most + 1) (most + marks_of (below c)) node (omega (arith, one)) good)
  room_here c false =
      let count = length-append (leavings (seats_of (h.nodes k)) c) (seatings (seats_of node) c) in
      let two = few c in
      room_marked (most + marks_of (below c)) (marks c) (h.nodes c)
      (room_less (most + 2) (most + marks_of (below c) + length (marks c)) (h.nodes c)
      (omega (arith, count, two)) (has c))

  effect_room : (c : ℕ) → HasRoom most ((effect h k node below).nodes c)
  effect_room c =
      room_renewed most (below c) h.now (if c == k then node else marked (marks c) (h.nodes c))
      (room_here c (c == k))

-- seats are left, or taken, by one node
few_left : (h : Hierarchy) (k : ℕ) → AllApart h → (c : ℕ)
    → length (leavings (seats_of (h.nodes k)) c) ≤ 1
few_left h k apart c = few_leavings (seats_of (h.nodes k)) c (seats_apart (h.nodes k) (apart k))

none_left : (was : Option Node) (c : ℕ) → was ≡ None → length (leavings (seats_of was) c) ≡ 0
none_left was c e = ap (λ (n : Option Node). length (leavings (seats_of n) c)) e

-- a move takes one seat at most, and none on what is below
few_by : (seat : Seat) (below : ℕ → Bool) (c : ℕ) → NotBelow below seat.place → (b : Bool) → below c ≡ b
    → length (seatings (seat ∷ []) c) + marks_of b ≤ 1
few_by seat below c not true on =
    let none = none_below below seat.terms seat.place c not on in
    let count = length-append (seating_at c seat.terms seat.place) [] in omega (arith, none, count)
few_by seat below c not false off =
    (let one = few_seatings (seat ∷ []) c (lone_apart seat) in omega (arith, one))

few_moved : (seat : Seat) (node : Option Node) (below : ℕ → Bool) (c : ℕ) → NotBelow below seat.place
    → length (seatings (seats_of (reseated seat node)) c) + marks_of (below c) ≤ 1
few_moved seat None below c not = (let one = few_marks (below c) in omega (arith, one))
few_moved seat (Some (Loaded s)) below c not = few_by seat below c not (below c) refl
few_moved seat (Some (Admitted t)) below c not = few_by seat below c not (below c) refl

-- ---- the law

rooms_of : (commands : ℕ) (h : Hierarchy) → HasMarksFor commands h → (c : ℕ) → HasRoom (2 * commands) (h.nodes c)
rooms_of commands h has c = by (h.nodes c) refl
  where
    by : (node : Option Node) → h.nodes c ≡ node → HasRoom (2 * commands) node
    by None e = tt
    by (Some (Loaded s)) e = has c s e
    by (Some (Admitted t)) e = tt

marks_of_rooms : (commands : ℕ) (h : Hierarchy) → ((c : ℕ) → HasRoom (2 * commands) (h.nodes c))
    → HasMarksFor commands h
marks_of_rooms commands h room k s e = subst (HasRoom (2 * commands)) e (room k)

step_room : (h : Hierarchy) (step : Step) (all more : ℕ) → Can h step → IsRoomy all step → more + 1 ≤ all
    → AllApart h → ((c : ℕ) → HasRoom (2 * more + 2) (h.nodes c)) → (c : ℕ)
    → HasRoom (2 * more) ((after h step).nodes c)
step_room h Refuse all more can roomy le apart has c =
    room_less (2 * more + 2) (2 * more) (h.nodes c) (omega arith) (has c)
step_room h (Load k name config spare_ticks spare_marks seats) all more can roomy le apart has c =
    effect_room h k (Some (Loaded (loaded h.now name config spare_ticks spare_marks seats))) nobody (2 * more)
    (omega (arith, roomy, le)) has
    (λ c. (let none = none_left (h.nodes k) c can.0.new.unused in
    let one = few_seatings seats c can.0.places.apart in omega (arith, none, one))) c
step_room h (Admit k name seat) all more can roomy le apart has c =
    effect_room h k (Some (Admitted (admitted h.now name seat))) nobody (2 * more) tt has
    (λ c. (let none = none_left (h.nodes k) c can.new.unused in
    let one = few_seatings (seat ∷ []) c (lone_apart seat) in omega (arith, none, one))) c
step_room h (End k) all more can roomy le apart has c =
    effect_room h k None nobody (2 * more) tt has
    (λ c. (let one = few_left h k apart c in omega (arith, one))) c
step_room h (Unload k) all more can roomy le apart has c =
    effect_room h k None nobody (2 * more) tt has
    (λ c. (let one = few_left h k apart c in omega (arith, one))) c
step_room h (Move k seat below) all more can roomy le apart has c =
    effect_room h k (reseated seat (h.nodes k)) below (2 * more)
    (room_reseated (2 * more + 1) seat (h.nodes k)
    (room_less (2 * more + 2) (2 * more + 1) (h.nodes k) (omega arith) (has k))) has
    (λ c. (let one = few_left h k apart c in
    let two = few_moved seat (h.nodes k) below c can.0.acyclic in omega (arith, one, two))) c
step_room h (Rouse k burst) all more can roomy le apart has c =
    room_roused (2 * more) (c == k) (wake_by burst h.now) (h.nodes c)
    (room_less (2 * more + 2) (2 * more) (h.nodes c) (omega arith) (has c))
step_room h (Block k) all more can roomy le apart has c =
    room_roused (2 * more) (c == k) Asleep (h.nodes c)
    (room_less (2 * more + 2) (2 * more) (h.nodes c) (omega arith) (has c))
step_room h (Elapse asking masks path) all more can roomy le apart has c =
    room_ticked (2 * more) (masks c) (hop_at (hops_of path) c) (h.nodes c)
    (room_less (2 * more + 2) (2 * more) (h.nodes c) (omega arith) (has c))

-- a command of so many leaves room for those that are still to come
pub command_marks : (h : Hierarchy) (step : Step) (all more : ℕ) → Can h step → IsRoomy all step → more + 1 ≤ all
    → AllApart h → HasMarksFor (more + 1) h → HasMarksFor more (after h step)
command_marks h step all more can roomy le apart has =
    marks_of_rooms more (after h step)
    (step_room h step all more can roomy le apart
    (λ c. room_less (2 * (more + 1)) (2 * more + 2) (h.nodes c) (omega arith) (rooms_of (more + 1) h has c)))

pub tick_marks : (h : Hierarchy) (asking : ℕ → Bool) (masks : ℕ → ℕ) (path : Option Path) (more : ℕ)
    → HasMarksFor more h → HasMarksFor more (after h (Elapse asking masks path))
tick_marks h asking masks path more has =
    marks_of_rooms more (after h (Elapse asking masks path))
    (λ c. room_ticked (2 * more) (masks c) (hop_at (hops_of path) c) (h.nodes c) (rooms_of more h has c))

-- room for the next command
pub next_marks : (h : Hierarchy) (more : ℕ) → 0 < more → HasMarksFor more h → HasMarkRoom h
next_marks h more some has k s e = (let room = has k s e in omega (arith, room, some))
