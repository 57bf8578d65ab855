-- A scheduler at the processor with at most two threads on it: its ticks, and what they leave.
use Rattle.std.proofs.Common.{◌≡◌, ◌≢◌, ℕ, zero, suc, ◌<◌, ◌≤◌, [], ◌∷◌, Option, Some, None, Bool, true}
use Rattle.std.proofs.Common.{false, refl, sym, ap, ◌∙◌, arith}
use Rattle.std.specs.Prelude.{codes, ◌&&◌, ◌%◌}
use Rattle.std.proofs.Math.Nat.{mod-lt}
use Rattle.hls_chron.specs.declared.plain.Config.{Config}
use Rattle.hls_chron.specs.declared.plain.Kind.TheVariants as kinds
use Rattle.hls_chron.specs.Kinds.{kind_of, port_count, fair}
use Rattle.hls_chron.specs.Ranges.{ConfigInRange}
use Rattle.hls_chron.specs.Ledger.{Ledger, now_of, with_row}
use Rattle.hls_chron.specs.Seats.{terms_at}
use Rattle.hls_kinds.specs.Asks.{asks, slot_asks}
use Rattle.hls_kinds.specs.Discipline.{Serves}
use Rattle.hls_kinds.specs.Slots.{IsFirst}
use Rattle.hls_kinds.specs.Tags.{start_tag}
use Rattle.hls_kinds.specs.Turns.{turn_slot, turn_ticks, turn_goes_on}
use Rattle.hls_machine.specs.Ledgers.{empty_book}
use Rattle.hls_machine.specs.Hierarchy.{Hierarchy, Node, Loaded, Admitted, Thread, Awake, At, start}
use Rattle.hls_machine.specs.Steps.{Step, Load, Elapse, Hop, Path, after, row_by, hop_at, hops_of, ticked}
use Rattle.hls_machine.specs.Legal.{IsAsking, IsShallow, Can, asks_now, root_asks}
use Rattle.hls_test_runs.specs.Moves.{root_seat}
use Rattle.hls_test_runs.proofs.Small.{Few, few_after, each_of_three, LowSeats, low_seat, no_low}
use Rattle.hls_test_runs.proofs.Small.{thread_low, flat, take_one, root_all, SeatsAsk, seat_asks, root_asks_so}
use Rattle.hls_test_runs.proofs.Small.{FreeSilent, all_silent}
use Rattle.hls_test_runs.proofs.Awake.{off_two}

-- with a quantum of 1 no turn goes on, so that the slot of least tag is served
none_of : (asks : Bool) → (asks && false) ≡ false
none_of true = refl
none_of false = refl

none_on : (b : Ledger) (mask : ℕ) → turn_goes_on 1 b mask ≡ false
none_on b mask =
    let whole : turn_ticks b (turn_slot b) % 1 ≡ 0 = (
    let lt = mod-lt (turn_ticks b (turn_slot b)) (let one : 0 < 1 = omega arith in one) in omega (arith, lt)) in
    rw whole (none_of (slot_asks mask (turn_slot b)))

pub least_served : (total most : ℕ) (b : Ledger) (mask slot : ℕ)
    → IsFirst 32 (slot_asks mask) (start_tag 1 b (now_of b)) slot → Serves (fair total most) b mask slot
least_served total most b mask slot is =
    record { goes_on = λ on. absurd (let no = sym on ∙ none_on b mask in cc); passes = λ off. is }

-- of two slots that ask, the one of least key is first, and the lesser where both are the same
pub second_first : (key : ℕ → ℕ) → key 1 < key 0 → IsFirst 32 (slot_asks 3) key 1
second_first key less = record {
  within = omega arith;
  chosen = refl;
  least = λ other lt on. least other on;
  first = λ other lt on same. tie other same;
}
  where
    least : (other : ℕ) → slot_asks 3 other ≡ true → key 1 ≤ key other
    least zero on = omega (arith, less)
    least (suc zero) on = omega arith
    least (suc (suc other)) on = absurd (let off = off_two other in cc)

    tie : (other : ℕ) → key 1 ≡ key other → 1 ≤ other
    tie zero same = absurd (omega (arith, less, same))
    tie (suc other) same = omega arith

pub first_first : (key : ℕ → ℕ) → key 0 ≤ key 1 → IsFirst 32 (slot_asks 3) key 0
first_first key le = record {
  within = omega arith;
  chosen = refl;
  least = λ other lt on. least other on;
  first = λ other lt on same. omega arith;
}
  where
    least : (other : ℕ) → slot_asks 3 other ≡ true → key 0 ≤ key other
    least zero on = omega arith
    least (suc zero) on = le
    least (suc (suc other)) on = absurd (let off = off_two other in cc)

abbrev pub thread_node : Option Thread → Option Node
thread_node None = None
thread_node (Some t) = Some (Admitted t)

-- the scheduler with this book, and these threads
pub record IsDesk (h : Hierarchy) (config : Config) (b : Ledger) (one two : Option Thread) : Type 0 where
  pub few : Few 3 h
  pub rooted : h.root ≡ Some 0
  pub root_there : h.nodes 0 ≡ Some
      (Loaded (record { name = codes "root"; config = config; book = b; ports = root_seat ∷ [] }))
  pub first_there : h.nodes 1 ≡ thread_node one
  pub second_there : h.nodes 2 ≡ thread_node two

low_thread : (c : ℕ) (some : Option Thread) → LowSeats c (thread_node some)
low_thread c None = no_low c
low_thread c (Some t) = thread_low c t

pub desk_flat : (h : Hierarchy) (config : Config) (b : Ledger) (one two : Option Thread)
    → IsDesk h config b one two → IsShallow h
desk_flat h config b one two desk = flat h
    (each_of_three h desk.few LowSeats (rw desk.root_there (low_seat 0 _ root_seat refl (omega arith)))
    (rw desk.first_there (low_thread 1 one)) (rw desk.second_there (low_thread 2 two)) (λ k le. no_low k))

-- the load of the scheduler
abbrev pub load_desk : Config → (ticks marks : ℕ) → Step
load_desk config ticks marks = Load 0 (codes "root") config ticks marks (root_seat ∷ [])

pub desk_loaded : (config : Config) (ticks marks : ℕ)
    → IsDesk (after start (load_desk config ticks marks)) config (empty_book 0 ticks marks) None None
desk_loaded config ticks marks = record {
  few = few_after 3 start (load_desk config ticks marks) (λ k le e. omega (arith, le, e)) (λ k le. refl);
  rooted = refl;
  root_there = refl;
  first_there = refl;
  second_there = refl;
}

pub can_load_desk : (config : Config) (ticks marks : ℕ) → kind_of config ≢ kinds.Cpu → ConfigInRange config
    → 1 ≡ port_count config → Can start (load_desk config ticks marks)
can_load_desk config ticks marks kind range ports = (
  record {
    new = record { unused = refl; named = refl; fresh = λ other e. cc };
    few = omega arith;
    kind = kind;
    in_range = range;
    ports = ports;
    places = take_one start root_seat
        (record {
          in_range = record { terms = tt; kept = tt };
          free = record { fits = refl; free = refl; derived = root_all };
        });
  },
  desk_flat (after start (load_desk config ticks marks)) config (empty_book 0 ticks marks) None None
      (desk_loaded config ticks marks),
)

-- a thread that is awake in a slot that asks, or no thread
abbrev pub IsIn : (mask : ℕ) → (slot : ℕ) → (asks : Bool) → Option Thread → Type 0
IsIn mask slot on None = on ≡ false
IsIn mask slot on (Some t) =
    (t.wake ≡ Awake) × (on ≡ true) × (t.seat.place ≡ At 0 slot) × (slot_asks mask slot ≡ true)

thread_asks : (h : Hierarchy) (c mask slot : ℕ) (on : Bool) (some : Option Thread) (slots : ℕ)
    → IsIn mask slot on some → on ≡ asks_now h c slots (thread_node some)
thread_asks h c mask slot on None slots is = is
thread_asks h c mask slot on (Some t) slots is = rw (is.0, is.1) refl

thread_seat : (asking : ℕ → Bool) (masks : ℕ → ℕ) (c slot : ℕ) (some : Option Thread)
    → IsIn (masks 0) slot (asking c) some → SeatsAsk asking masks c (thread_node some)
thread_seat asking masks c slot None is = λ port seat p at e there. cc
thread_seat asking masks c slot (Some t) is =
    seat_asks asking masks c 0 slot t.seat is.2 (is.3 ∙ sym is.1)

thread_ticked : (mask : ℕ) (hop : Option Hop) (some : Option Thread)
    → ticked mask hop (thread_node some) ≡ thread_node some
thread_ticked mask hop None = refl
thread_ticked mask hop (Some t) = refl

module _ (h : Hierarchy) (config : Config) (b : Ledger) (one two : Option Thread)
    (desk : IsDesk h config b one two) where
  -- who asks in a tick: threads that are awake, through their slots
  pub desk_asking : (asking : ℕ → Bool) (masks : ℕ → ℕ) → asking 0 ≡ asks config b (masks 0)
      → IsIn (masks 0) 0 (asking 1) one → IsIn (masks 0) 1 (asking 2) two
      → ((k : ℕ) → 3 ≤ k → asking k ≡ false) → ((k : ℕ) → 1 ≤ k → masks k ≡ 0)
      → ((slot : ℕ) → terms_at b slot ≡ None → slot_asks (masks 0) slot ≡ false)
      → IsAsking h asking masks
  desk_asking asking masks top first second rest below silent = record {
    nodes = each_of_three h desk.few (λ k node. asking k ≡ asks_now h k (masks k) node)
        (rw desk.root_there top) (rw desk.first_there (thread_asks h 1 (masks 0) 0 (asking 1) one (masks 1) first))
        (rw desk.second_there (thread_asks h 2 (masks 0) 1 (asking 2) two (masks 2) second)) (λ k le. rest k le);
    seats = each_of_three h desk.few (SeatsAsk asking masks)
        (rw desk.root_there (root_asks_so asking masks 0 root_seat refl))
        (rw desk.first_there (thread_seat asking masks 1 0 one first))
        (rw desk.second_there (thread_seat asking masks 2 1 two second)) (λ k le port seat p slot e is. cc);
    free = each_of_three h desk.few (FreeSilent masks) (rw desk.root_there silent)
        (all_silent masks 1 (h.nodes 1) (below 1 (omega arith)))
        (all_silent masks 2 (h.nodes 2) (below 2 (omega arith)))
        (λ k le. all_silent masks k None (below k (omega (arith, le))));
  }

  pub desk_ticked : (asking : ℕ → Bool) (masks : ℕ → ℕ) (path : Option Path)
      → IsDesk (after h (Elapse asking masks path)) config
      (with_row b (row_by (masks 0) (hop_at (hops_of path) 0))) one two
  desk_ticked asking masks path = record {
    few = λ k le. ap (ticked (masks k) (hop_at (hops_of path) k)) (desk.few k le);
    rooted = desk.rooted;
    root_there = ap (ticked (masks 0) (hop_at (hops_of path) 0)) desk.root_there;
    first_there = ap (ticked (masks 1) (hop_at (hops_of path) 1)) desk.first_there
        ∙ thread_ticked (masks 1) (hop_at (hops_of path) 1) one;
    second_there = ap (ticked (masks 2) (hop_at (hops_of path) 2)) desk.second_there
        ∙ thread_ticked (masks 2) (hop_at (hops_of path) 2) two;
  }

  -- a tick that serves a thread, and one that is idle
  pub desk_runs : (asking : ℕ → Bool) (masks : ℕ → ℕ) (slot k : ℕ) (t : Thread) → IsAsking h asking masks
      → asking 0 ≡ true → Serves config b (masks 0) slot → h.nodes k ≡ Some (Admitted t)
      → t.seat.place ≡ At 0 slot → t.wake ≡ Awake
      → Can h (Elapse asking masks (Some (record
      { hops = record { node = 0; port = 0; slot = slot } ∷ []; thread = k })))
  desk_runs asking masks slot k t is on serves there at_place awake = (
    is,
    (
      ap (λ root. root_asks root asking) desk.rooted ∙ on,
      (
        record {
          scheduler = _;
          seat = root_seat;
          there = desk.root_there;
          port = refl;
          at_place = refl;
          serves = serves;
        },
        record { thread = t; there = there; at_place = at_place; ready = rw awake refl },
      ),
    ),
  )

  pub desk_idles : (asking : ℕ → Bool) (masks : ℕ → ℕ) → IsAsking h asking masks → asking 0 ≡ false
      → Can h (Elapse asking masks None)
  desk_idles asking masks is off = (is, ap (λ root. root_asks root asking) desk.rooted ∙ off)
