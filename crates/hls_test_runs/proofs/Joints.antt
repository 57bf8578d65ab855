-- What stands in the run with a join, and how its ticks elapse.
use Rattle.std.proofs.Common.{◌≡◌, ◌≢◌, ℕ, zero, suc, ◌<◌, ◌≤◌, List, [], ◌∷◌, Option, Some, None, Bool, true}
use Rattle.std.proofs.Common.{false, ◌&&◌, slice_get, refl, sym, ap, ◌∙◌, subst, arith}
use Rattle.std.specs.Prelude.{codes}
use Rattle.hls_chron.specs.declared.plain.Config.TheVariants as configs
use Rattle.hls_chron.specs.declared.book.TickRow.{TickRow}
use Rattle.hls_chron.specs.Ledger.{Ledger, with_row}
use Rattle.hls_chron.proofs.BookLaws.{terms_at-row}
use Rattle.hls_chron.specs.Seats.{terms_at}
use Rattle.hls_kinds.specs.Asks.{asks, slot_asks}
use Rattle.hls_kinds.specs.Discipline.{Serves}
use Rattle.hls_machine.specs.Hierarchy.{Hierarchy, Node, Loaded, Admitted, Scheduler, Thread, Awake, At, Seat}
use Rattle.hls_machine.specs.Hierarchy.{Place, Processor}
use Rattle.hls_machine.specs.Steps.{Path, after, row_by, hop_at, ticked}
use Rattle.hls_machine.specs.Legal.{SitsUnder, IsShallow, IsAsking, Enters, Ends, Can, asks_now, root_asks}
use Rattle.hls_machine.specs.Legal.{scheduler_at}
use Rattle.hls_machine.proofs.Absent.{Rises, shallow}
use Rattle.hls_machine.proofs.Seatings.{lone_port}
use Rattle.hls_test_runs.specs.Moves.{root_seat}
use Rattle.hls_test_runs.specs.Joined.{reservations_seat, turns_seat, reserved_port, turn_port, joined_seat}
use Rattle.hls_test_runs.specs.Joined.{other_seat, asking_with, slots_with, hop, by_reservation, by_turn}
use Rattle.hls_test_runs.specs.Joined.{to_other, tick}
use Rattle.hls_test_runs.proofs.Small.{Few, beyond, placed, same_slot, bit_off, SeatsAsk, seat_asks, root_asks_so}
use Rattle.hls_test_runs.proofs.Small.{FreeSilent, one_silent, all_silent}
use Rattle.hls_test_runs.proofs.Awake.{two_silent}

-- what holds of each of six nodes, and of what is none, holds of every node
pub each_of_six : (h : Hierarchy) → Few 6 h → (P : ℕ → Option Node → Type 0) → P 0 (h.nodes 0)
    → P 1 (h.nodes 1) → P 2 (h.nodes 2) → P 3 (h.nodes 3) → P 4 (h.nodes 4) → P 5 (h.nodes 5)
    → ((k : ℕ) → 6 ≤ k → P k None) → (k : ℕ) → P k (h.nodes k)
each_of_six h few P a b c d e f rest zero = a
each_of_six h few P a b c d e f rest (suc zero) = b
each_of_six h few P a b c d e f rest (suc (suc zero)) = c
each_of_six h few P a b c d e f rest (suc (suc (suc zero))) = d
each_of_six h few P a b c d e f rest (suc (suc (suc (suc zero)))) = e
each_of_six h few P a b c d e f rest (suc (suc (suc (suc (suc zero))))) = f
each_of_six h few P a b c d e f rest (suc (suc (suc (suc (suc (suc k)))))) =
    subst (P (suc (suc (suc (suc (suc (suc k))))))) (sym (few (suc (suc (suc (suc (suc (suc k)))))) (omega arith)))
    (rest (suc (suc (suc (suc (suc (suc k)))))) (omega arith))

-- levels: schedulers sit on nodes of lesser numbers, of at most four
abbrev pub Lower : (c : ℕ) → Option ℕ → Type 0
Lower c None = c ≤ 3
Lower c (Some p) = (p < c) × (c ≤ 3)

abbrev pub LowerSeats : (c : ℕ) → Option Node → Type 0
LowerSeats c node = (s : Scheduler) (port : ℕ) (seat : Seat) → node ≡ Some (Loaded s)
    → slice_get s.ports port ≡ Some seat → Lower c (scheduler_at seat.place)

rises : (parent : Option ℕ) (c : ℕ) (h : Hierarchy) → Lower c parent → Rises h (λ k. k) parent c
rises None c h low = tt
rises (Some p) c h low = low.0

within : (parent : Option ℕ) (c : ℕ) → Lower c parent → c ≤ 3
within None c low = low
within (Some p) c low = low.1

pub level : (h : Hierarchy) → ((c : ℕ) → LowerSeats c (h.nodes c)) → IsShallow h
level h each =
    let low : (parent : Option ℕ) (c : ℕ) → SitsUnder h parent c → Lower c parent =
    λ parent c sits. subst (Lower c) sits.under
    (each c sits.scheduler sits.port sits.seat sits.there sits.sits) in
    shallow h (λ k. k) 3 (omega arith) (record {
      rises = λ parent c sits. rises parent c h (low parent c sits);
      within = λ parent c sits. within parent c (low parent c sits);
    })

pub lower_none : (c : ℕ) → LowerSeats c None
lower_none c s port seat e f = cc

pub lower_thread : (c : ℕ) (t : Thread) → LowerSeats c (Some (Admitted t))
lower_thread c t s port seat e f = cc

pub lower_seat : (c : ℕ) (x : Scheduler) (own : Seat) → x.ports ≡ own ∷ [] → Lower c (scheduler_at own.place)
    → LowerSeats c (Some (Loaded x))
lower_seat c x own is low s port seat e f =
    let same : x ≡ s = cc in
    let mine : slice_get (own ∷ []) port ≡ Some seat =
    sym (ap (λ (xs : List Seat). slice_get xs port) (sym (ap (λ (y : Scheduler). y.ports) same) ∙ is)) ∙ f in
    subst (λ (y : Seat). Lower c (scheduler_at y.place)) (lone_port own seat port mine).same low

lower_two : (c : ℕ) (one two : Seat) → Lower c (scheduler_at one.place) → Lower c (scheduler_at two.place)
    → (port : ℕ) (seat : Seat) → slice_get (one ∷ two ∷ []) port ≡ Some seat → Lower c (scheduler_at seat.place)
lower_two c one two low less zero seat e =
    let same : one ≡ seat = cc in subst (λ (y : Seat). Lower c (scheduler_at y.place)) same low
lower_two c one two low less (suc zero) seat e =
    let same : two ≡ seat = cc in subst (λ (y : Seat). Lower c (scheduler_at y.place)) same less
lower_two c one two low less (suc (suc port)) seat e = absurd (cc)

pub lower_seats : (c : ℕ) (x : Scheduler) (one two : Seat) → x.ports ≡ one ∷ two ∷ []
    → Lower c (scheduler_at one.place) → Lower c (scheduler_at two.place) → LowerSeats c (Some (Loaded x))
lower_seats c x one two is low less s port seat e f =
    let same : x ≡ s = cc in
    let mine : slice_get (one ∷ two ∷ []) port ≡ Some seat =
    sym (ap (λ (xs : List Seat). slice_get xs port) (sym (ap (λ (y : Scheduler). y.ports) same) ∙ is)) ∙ f in
    lower_two c one two low less port seat mine

-- schedulers and threads, as they stand
abbrev pub root_with : Ledger → Scheduler
root_with b = record { name = codes "root"; config = configs.Fp; book = b; ports = root_seat ∷ [] }

abbrev pub reservations_with : Ledger → Scheduler
reservations_with b = record { name = codes "e"; config = configs.Edf; book = b; ports = reservations_seat ∷ [] }

abbrev pub turns_with : Ledger → Scheduler
turns_with b = record { name = codes "r"; config = configs.Rr 1; book = b; ports = turns_seat ∷ [] }

abbrev pub join_with : Ledger → Scheduler
join_with b =
    record { name = codes "j"; config = configs.Join 2; book = b; ports = reserved_port ∷ turn_port ∷ [] }

abbrev pub joined_thread : Thread
joined_thread = record { name = codes "a"; seat = joined_seat; wake = Awake; stay = 0 }

abbrev pub other_thread : Thread
other_thread = record { name = codes "b"; seat = other_seat; wake = Awake; stay = 0 }

pub record IsJoint (h : Hierarchy) (top e r j : Ledger) : Type 0 where
  pub few : Few 6 h
  pub rooted : h.root ≡ Some 0
  pub root_there : h.nodes 0 ≡ Some (Loaded (root_with top))
  pub reservations_there : h.nodes 1 ≡ Some (Loaded (reservations_with e))
  pub turns_there : h.nodes 2 ≡ Some (Loaded (turns_with r))
  pub join_there : h.nodes 3 ≡ Some (Loaded (join_with j))
  pub joined_there : h.nodes 4 ≡ Some (Admitted joined_thread)
  pub other_there : h.nodes 5 ≡ Some (Admitted other_thread)

-- who asks
and_true : (a : Bool) → a ≡ (a && true)
and_true true = refl
and_true false = refl

and_false : (a : Bool) → (a && false) ≡ false
and_false true = refl
and_false false = refl

some_asks : (budget : Bool) (b : Ledger) → true ≡ asks configs.Fp b (slots_with budget 0)
some_asks true b = refl
some_asks false b = refl

first_asks : (budget : Bool) → slot_asks (slots_with budget 0) 0 ≡ asking_with budget 1
first_asks true = refl
first_asks false = refl

second_asks : (budget : Bool) → slot_asks (slots_with budget 0) 1 ≡ asking_with budget 2
second_asks true = refl
second_asks false = refl

root_silent : (budget : Bool) (b : Ledger) → terms_at b 0 ≢ None → terms_at b 1 ≢ None → (slot : ℕ)
    → terms_at b slot ≡ None → slot_asks (slots_with budget 0) slot ≡ false
root_silent true b one two slot none = two_silent (slots_with true) 0 b refl one two slot none
root_silent false b one two zero none = absurd (one none)
root_silent false b one two (suc zero) none = absurd (two none)
root_silent false b one two (suc (suc slot)) none = bit_off 1 (suc (suc slot)) (λ e. omega (arith, e))

-- the two ports of the join
join_asks : (budget : Bool) (port : ℕ) (seat : Seat) (p slot : ℕ)
    → slice_get (reserved_port ∷ turn_port ∷ []) port ≡ Some seat → seat.place ≡ At p slot
    → slot_asks (slots_with budget p) slot ≡ asking_with budget 3
join_asks budget zero seat p slot e is =
    let same = same_slot 1 0 p slot (placed reserved_port seat 0 p slot (one_of seat e) is) in
    rw (same.node, same.place) refl
  where
    one_of : (seat : Seat) → slice_get (reserved_port ∷ turn_port ∷ []) 0 ≡ Some seat
        → slice_get (reserved_port ∷ []) 0 ≡ Some seat
    one_of seat e = e
join_asks budget (suc zero) seat p slot e is =
    let same = same_slot 2 0 p slot (placed turn_port seat 0 p slot (one_of seat e) is) in
    rw (same.node, same.place) refl
  where
    one_of : (seat : Seat) → slice_get (reserved_port ∷ turn_port ∷ []) 1 ≡ Some seat
        → slice_get (turn_port ∷ []) 0 ≡ Some seat
    one_of seat e = e
join_asks budget (suc (suc port)) seat p slot e is = absurd (cc)

-- the seats that the books have
pub record IsFilled (top e r j : Ledger) : Type 0 where
  pub top_one : terms_at top 0 ≢ None
  pub top_two : terms_at top 1 ≢ None
  pub reserved : terms_at e 0 ≢ None
  pub turn_one : terms_at r 0 ≢ None
  pub turn_two : terms_at r 1 ≢ None
  pub sole : terms_at j 0 ≢ None

pub filled_rows : (top e r j : Ledger) (a b c d : TickRow) → IsFilled top e r j
    → IsFilled (with_row top a) (with_row e b) (with_row r c) (with_row j d)
filled_rows top e r j a b c d filled = record {
  top_one = λ none. filled.top_one (sym (terms_at-row top a 0) ∙ none);
  top_two = λ none. filled.top_two (sym (terms_at-row top a 1) ∙ none);
  reserved = λ none. filled.reserved (sym (terms_at-row e b 0) ∙ none);
  turn_one = λ none. filled.turn_one (sym (terms_at-row r c 0) ∙ none);
  turn_two = λ none. filled.turn_two (sym (terms_at-row r c 1) ∙ none);
  sole = λ none. filled.sole (sym (terms_at-row j d 0) ∙ none);
}

module _ (h : Hierarchy) (top e r j : Ledger) (joint : IsJoint h top e r j) where
  pub joint_asking : IsFilled top e r j → (budget : Bool) → budget ≡ asks configs.Edf e 1
      → IsAsking h (asking_with budget) (slots_with budget)
  joint_asking filled budget is = record {
    nodes = each_of_six h joint.few (λ k node. asking_with budget k ≡ asks_now h k (slots_with budget k) node)
        (rw joint.root_there (some_asks budget top)) (rw joint.reservations_there (sym (and_true budget) ∙ is))
        (rw joint.turns_there refl) (rw joint.join_there refl) (rw joint.joined_there refl)
        (rw joint.other_there refl)
        (λ k le. rw (
          beyond k 0 (omega (arith, le)),
          beyond k 1 (omega (arith, le)),
          beyond k 2 (omega (arith, le)),
          beyond k 3 (omega (arith, le)),
          beyond k 4 (omega (arith, le)),
          beyond k 5 (omega (arith, le)),
        ) (and_false budget));
    seats = each_of_six h joint.few (SeatsAsk (asking_with budget) (slots_with budget))
        (rw joint.root_there (root_asks_so (asking_with budget) (slots_with budget) 0 root_seat refl))
        (rw joint.reservations_there
        (seat_asks (asking_with budget) (slots_with budget) 1 0 0 reservations_seat refl (first_asks budget)))
        (rw joint.turns_there
        (seat_asks (asking_with budget) (slots_with budget) 2 0 1 turns_seat refl (second_asks budget)))
        (rw joint.join_there (join_asks budget))
        (rw joint.joined_there
        (seat_asks (asking_with budget) (slots_with budget) 4 3 0 joined_seat refl refl))
        (rw joint.other_there
        (seat_asks (asking_with budget) (slots_with budget) 5 2 1 other_seat refl refl))
        (λ k le port seat p slot f is. cc);
    free = each_of_six h joint.few (FreeSilent (slots_with budget))
        (rw joint.root_there (root_silent budget top filled.top_one filled.top_two))
        (rw joint.reservations_there
        (one_silent (slots_with budget) 1 0 (Some (Loaded (reservations_with e))) refl filled.reserved))
        (rw joint.turns_there (two_silent (slots_with budget) 2 r refl filled.turn_one filled.turn_two))
        (rw joint.join_there
        (one_silent (slots_with budget) 3 0 (Some (Loaded (join_with j))) refl filled.sole))
        (all_silent (slots_with budget) 4 (h.nodes 4) refl) (all_silent (slots_with budget) 5 (h.nodes 5) refl)
        (λ k le. all_silent (slots_with budget) k None (rw (
          beyond k 0 (omega (arith, le)),
          beyond k 1 (omega (arith, le)),
          beyond k 2 (omega (arith, le)),
          beyond k 3 (omega (arith, le)),
        ) refl));
  }

  pub joint_ticked : (budget : Bool) (path : Path)
      → IsJoint (after h (tick budget path)) (with_row top (row_by (slots_with budget 0) (hop_at path.hops 0)))
      (with_row e (row_by 1 (hop_at path.hops 1))) (with_row r (row_by 3 (hop_at path.hops 2)))
      (with_row j (row_by 1 (hop_at path.hops 3)))
  joint_ticked budget path = record {
    few = λ k le. ap (ticked (slots_with budget k) (hop_at path.hops k)) (joint.few k le);
    rooted = joint.rooted;
    root_there = ap (ticked (slots_with budget 0) (hop_at path.hops 0)) joint.root_there;
    reservations_there = ap (ticked 1 (hop_at path.hops 1)) joint.reservations_there;
    turns_there = ap (ticked 3 (hop_at path.hops 2)) joint.turns_there;
    join_there = ap (ticked 1 (hop_at path.hops 3)) joint.join_there;
    joined_there = ap (ticked 0 (hop_at path.hops 4)) joint.joined_there;
    other_there = ap (ticked 0 (hop_at path.hops 5)) joint.other_there;
  }

  -- hops
  enters_root : (budget : Bool) (slot : ℕ) → Serves configs.Fp top (slots_with budget 0) slot
      → Enters h (slots_with budget) Processor (hop 0 0 slot)
  enters_root budget slot serves = record {
    scheduler = root_with top;
    seat = root_seat;
    there = joint.root_there;
    port = refl;
    at_place = refl;
    serves = serves;
  }

  enters_reservations : (budget : Bool) → Serves configs.Edf e 1 0
      → Enters h (slots_with budget) (At 0 0) (hop 1 0 0)
  enters_reservations budget serves = record {
    scheduler = reservations_with e;
    seat = reservations_seat;
    there = joint.reservations_there;
    port = refl;
    at_place = refl;
    serves = serves;
  }

  enters_turns : (budget : Bool) (slot : ℕ) → Serves (configs.Rr 1) r 3 slot
      → Enters h (slots_with budget) (At 0 1) (hop 2 0 slot)
  enters_turns budget slot serves = record {
    scheduler = turns_with r;
    seat = turns_seat;
    there = joint.turns_there;
    port = refl;
    at_place = refl;
    serves = serves;
  }

  -- a join has one slot, which asks
  enters_join : (budget : Bool) (port : ℕ) (seat : Seat) (place : Place)
      → slice_get (reserved_port ∷ turn_port ∷ []) port ≡ Some seat → seat.place ≡ place
      → Enters h (slots_with budget) place (hop 3 port 0)
  enters_join budget port seat place is at_place = record {
    scheduler = join_with j;
    seat = seat;
    there = joint.join_there;
    port = is;
    at_place = at_place;
    serves = record { sole = refl; asks = refl };
  }

  joined_ends : Ends h (At 3 0) 4
  joined_ends =
      record { thread = joined_thread; there = joint.joined_there; at_place = refl; ready = refl }

  other_ends : Ends h (At 2 1) 5
  other_ends = record { thread = other_thread; there = joint.other_there; at_place = refl; ready = refl }

  root_on : (budget : Bool) → root_asks h.root (asking_with budget) ≡ true
  root_on budget = ap (λ root. root_asks root (asking_with budget)) joint.rooted

  pub can_reserve : IsFilled top e r j → true ≡ asks configs.Edf e 1 → Serves configs.Fp top 3 0
      → Serves configs.Edf e 1 0 → Can h (tick true by_reservation)
  can_reserve filled is first reserved = (
    joint_asking filled true is,
    (
      root_on true,
      (
        enters_root true 0 first,
        (enters_reservations true reserved, (enters_join true 0 reserved_port (At 1 0) refl refl, joined_ends)),
      ),
    ),
  )

  pub can_turn : IsFilled top e r j → false ≡ asks configs.Edf e 1 → Serves configs.Fp top 2 1
      → Serves (configs.Rr 1) r 3 0 → Can h (tick false by_turn)
  can_turn filled is second turn = (
    joint_asking filled false is,
    (
      root_on false,
      (
        enters_root false 1 second,
        (enters_turns false 0 turn, (enters_join false 1 turn_port (At 2 0) refl refl, joined_ends)),
      ),
    ),
  )

  pub can_other : IsFilled top e r j → false ≡ asks configs.Edf e 1 → Serves configs.Fp top 2 1
      → Serves (configs.Rr 1) r 3 1 → Can h (tick false to_other)
  can_other filled is second turn = (
    joint_asking filled false is,
    (root_on false, (enters_root false 1 second, (enters_turns false 1 turn, other_ends))),
  )
