-- Small hierarchies of fixed priority: which nodes there are, which seats may be taken, and what asks.
use Rattle.std.proofs.Common.{◌≡◌, ◌≢◌, ℕ, zero, suc, inl, inr, ◌<◌, ◌≤◌, ◌^◌, List, [], ◌∷◌, Option, Some}
use Rattle.std.proofs.Common.{None, Bool, false, ◌==◌, slice_get, refl, sym, ap, ◌∙◌, subst, arith}
use Rattle.std.proofs.lemmas.Bool.{cases_eq, ne_eqb}
use Rattle.std.proofs.lemmas.Nat.Bits.{bit_at-zero, bit_at-pow_other, bit_at-pow_same}
use Rattle.hls_chron.specs.declared.plain.Config.TheVariants as configs
use Rattle.hls_chron.specs.declared.plain.Terms.TheVariants as variants
use Rattle.hls_chron.specs.Ledger.{Ledger}
use Rattle.hls_chron.specs.Seats.{terms_at, priority_at}
use Rattle.hls_kinds.specs.Asks.{slot_asks}
use Rattle.hls_kinds.specs.Discipline.{HasLeastPriority}
use Rattle.hls_kinds.specs.Fits.{Fits}
use Rattle.hls_guarantee.specs.declared.Guarantee.{Guarantee}
use Rattle.hls_guarantee.specs.declared.Guarantee.TheVariants.{All, Null}
use Rattle.hls_guarantee.specs.Limits.{IsValid}
use Rattle.hls_machine.specs.Ledgers.{empty_book}
use Rattle.hls_machine.specs.Derived.{Yields, Follows}
use Rattle.hls_machine.specs.Hierarchy.{Hierarchy, Node, Loaded, Admitted, Scheduler, Thread, Processor, At}
use Rattle.hls_machine.specs.Hierarchy.{Seat, seat_of, book_of}
use Rattle.hls_machine.specs.Steps.{Step, after}
use Rattle.hls_machine.specs.Legal.{SitsUnder, IsShallow, MayTake, MayTakeEach, MaySit, scheduler_at}
use Rattle.hls_machine.proofs.Seatings.{lone_port}
use Rattle.hls_machine.proofs.Absent.{Makes, absent_step, Rises, shallow}

-- there are no nodes but the first few
abbrev pub Few : (n : ℕ) → Hierarchy → Type 0
Few n h = (k : ℕ) → n ≤ k → h.nodes k ≡ None

pub few_after : (n : ℕ) (h : Hierarchy) (step : Step) → ((k : ℕ) → n ≤ k → ¬ Makes k step) → Few n h
    → Few n (after h step)
few_after n h step makes few k le = absent_step h k step (makes k le) (few k le)

-- what holds of each of three or four nodes, and of what is none, holds of every node
pub each_of_three : (h : Hierarchy) → Few 3 h → (P : ℕ → Option Node → Type 0) → P 0 (h.nodes 0)
    → P 1 (h.nodes 1) → P 2 (h.nodes 2) → ((k : ℕ) → 3 ≤ k → P k None)
    → (k : ℕ) → P k (h.nodes k)
each_of_three h few P x y z rest zero = x
each_of_three h few P x y z rest (suc zero) = y
each_of_three h few P x y z rest (suc (suc zero)) = z
each_of_three h few P x y z rest (suc (suc (suc k))) =
    subst (P (suc (suc (suc k)))) (sym (few (suc (suc (suc k))) (omega arith)))
    (rest (suc (suc (suc k))) (omega arith))

pub each_of_four : (h : Hierarchy) → Few 4 h → (P : ℕ → Option Node → Type 0) → P 0 (h.nodes 0)
    → P 1 (h.nodes 1) → P 2 (h.nodes 2) → P 3 (h.nodes 3) → ((k : ℕ) → 4 ≤ k → P k None)
    → (k : ℕ) → P k (h.nodes k)
each_of_four h few P x y z w rest zero = x
each_of_four h few P x y z w rest (suc zero) = y
each_of_four h few P x y z w rest (suc (suc zero)) = z
each_of_four h few P x y z w rest (suc (suc (suc zero))) = w
each_of_four h few P x y z w rest (suc (suc (suc (suc k)))) =
    subst (P (suc (suc (suc (suc k))))) (sym (few (suc (suc (suc (suc k)))) (omega arith)))
    (rest (suc (suc (suc (suc k)))) (omega arith))

pub beyond : (k c : ℕ) → c < k → (k == c) ≡ false
beyond k c lt = ne_eqb k c (λ e. omega (arith, lt, e))

-- where the one seat of a node is
pub placed : (own seat : Seat) (port p slot : ℕ) → slice_get (own ∷ []) port ≡ Some seat
    → seat.place ≡ At p slot → own.place ≡ At p slot
placed own seat port p slot e is = ap (λ (s : Seat). s.place) (lone_port own seat port e).same ∙ is

pub record SameSlot (q at p slot : ℕ) : Type 0 where
  pub node : p ≡ q
  pub place : slot ≡ at

pub same_slot : (q at p slot : ℕ) → At q at ≡ At p slot → SameSlot q at p slot
same_slot q at p slot e = record { node = cc; place = cc }

-- what is derived
pub yields : (g : Guarantee) → Yields g g
yields g served asks lo hi s = s

pub root_all : Follows configs.Cpu variants.Cpu (All ∷ []) All
root_all = record {
  port = 0;
  have = All;
  is_have = refl;
  offered = All;
  lent = All;
  first = yields All;
  through =
      record { from = tt; to = tt; port_of = refl; lends = inl refl };
  last = yields All;
}

pub first_all : Follows configs.Fp (variants.Prio 0) (All ∷ []) All
first_all = record {
  port = 0;
  have = All;
  is_have = refl;
  offered = All;
  lent = All;
  first = yields All;
  through =
      record { from = tt; to = tt; port_of = refl; lends = inl (refl, refl) };
  last = yields All;
}

pub later_nothing : (priority : ℕ) (have : Guarantee) → IsValid have
    → Follows configs.Fp (variants.Prio priority) (have ∷ []) Null
later_nothing priority have valid =
    record {
      port = 0;
      have = have;
      is_have = refl;
      offered = have;
      lent = Null;
      first = yields have;
      through =
          record { from = valid; to = tt; port_of = refl; lends = inr refl };
      last = yields Null;
    }

-- a priority number that no seat has fits
pub fits_number : (b : Ledger) (priority : ℕ) → ((slot : ℕ) → priority_at b slot ≢ Some priority)
    → Fits configs.Fp b (variants.Prio priority)
fits_number b priority other = record {
  of_kind = refl;
  within = λ e. e;
  apart = λ p e has. other has.slot (has.has ∙ ap (λ n. Some n) (let same : priority ≡ p = cc in sym same));
  room = λ free asked lacks. let a = lacks.asks in let b = lacks.lacks in absurd (omega (arith, a, b));
}

none_taken : (start spare_ticks spare_marks slot priority : ℕ)
    → priority_at (empty_book start spare_ticks spare_marks) slot ≢ Some priority
unfolding terms_at
none_taken start spare_ticks spare_marks slot priority e = cc

-- a first seat, on a scheduler that has every tick and an empty book
pub first_seat : (h : Hierarchy) (p : ℕ) (name : List ℕ) (start spare_ticks spare_marks : ℕ) (own : Seat)
    → h.nodes p ≡ Some
    (Loaded (record
    { name = name; config = configs.Fp; book = empty_book start spare_ticks spare_marks; ports = own ∷ [] }))
    → own.kept ≡ All → MaySit h [] (record { place = At p 0; terms = variants.Prio 0; kept = All }) p 0
unfolding terms_at
first_seat h p name start spare_ticks spare_marks own there is = record {
  scheduler = record
      { name = name; config = configs.Fp; book = empty_book start spare_ticks spare_marks; ports = own ∷ [] };
  there = there;
  fits = fits_number (empty_book start spare_ticks spare_marks) 0
      (λ slot. none_taken start spare_ticks spare_marks slot 0);
  room = λ full. full 0 (omega arith) refl;
  free = record { within = omega arith; free = refl; least = λ other lt. absurd (omega arith) };
  derived = rw (there, is) first_all;
}

pub take_one : (h : Hierarchy) (own : Seat) → MayTake h [] own → MayTakeEach h (own ∷ [])
take_one h own may = record {
  take = λ port seat e. subst (MayTake h []) (lone_port own seat port e).same may;
  apart = λ port other a b e f same. (lone_port own a port e).first ∙ sym (lone_port own b other f).first;
}

pub take_first : (h : Hierarchy) (p : ℕ)
    → MaySit h [] (record { place = At p 0; terms = variants.Prio 0; kept = All }) p 0
    → MayTakeEach h ((record { place = At p 0; terms = variants.Prio 0; kept = All }) ∷ [])
take_first h p may = take_one h (record { place = At p 0; terms = variants.Prio 0; kept = All })
    (record { in_range = record { terms = omega arith; kept = tt }; free = may })

-- the levels, where the only schedulers are nodes 0 and 1
abbrev pub Low : (c : ℕ) → Option ℕ → Type 0
Low c None = c ≤ 1
Low c (Some p) = (p < c) × (c ≤ 1)

abbrev pub LowSeats : (c : ℕ) → Option Node → Type 0
LowSeats c node = (s : Scheduler) (port : ℕ) (seat : Seat) → node ≡ Some (Loaded s)
    → slice_get s.ports port ≡ Some seat → Low c (scheduler_at seat.place)

pub low_seat : (c : ℕ) (x : Scheduler) (own : Seat) → x.ports ≡ own ∷ [] → Low c (scheduler_at own.place)
    → LowSeats c (Some (Loaded x))
low_seat c x own is low s port seat e f =
    let same : x ≡ s = cc in
    let mine : slice_get (own ∷ []) port ≡ Some seat =
    sym (ap (λ (xs : List Seat). slice_get xs port) (sym (ap (λ (y : Scheduler). y.ports) same) ∙ is))
    ∙ f in
    subst (λ (y : Seat). Low c (scheduler_at y.place)) (lone_port own seat port mine).same low

pub no_low : (c : ℕ) → LowSeats c None
no_low c s port seat e f = cc

pub thread_low : (c : ℕ) (t : Thread) → LowSeats c (Some (Admitted t))
thread_low c t s port seat e f = cc

rises : (parent : Option ℕ) (c : ℕ) (h : Hierarchy) → Low c parent → Rises h (λ k. k) parent c
rises None c h low = tt
rises (Some p) c h low = low.0

within : (parent : Option ℕ) (c : ℕ) → Low c parent → c ≤ 1
within None c low = low
within (Some p) c low = low.1

pub flat : (h : Hierarchy) → ((c : ℕ) → LowSeats c (h.nodes c)) → IsShallow h
flat h each =
    let low : (parent : Option ℕ) (c : ℕ) → SitsUnder h parent c
    → Low c parent =
    λ parent c sits. subst (Low c) sits.under
    (each c sits.scheduler sits.port sits.seat sits.there sits.sits) in
    shallow h (λ k. k) 1 (omega arith)
    (record {
      rises = λ parent c sits. rises parent c h (low parent c sits);
      within =
          λ parent c sits. within parent c (low parent c sits);
    })

-- bits
pub bit_off : (place slot : ℕ) → slot ≢ place → slot_asks (2 ^ place) slot ≡ false
bit_off place slot ne = let zero = bit_at-pow_other place slot ne in rw zero refl

pub zero_off : (slot : ℕ) → slot_asks 0 slot ≡ false
zero_off slot = let zero = bit_at-zero slot in rw zero refl

-- the one slot that asks is served
pub lone_least : (b : Ledger) (place : ℕ) → priority_at b place ≢ None → HasLeastPriority b (2 ^ place) place
lone_least b place seated = record {
  asks = bit_at-pow_same place;
  seated = seated;
  least = λ other priority rival asks mine theirs. elim (cases_eq other place) [
    | inl e ↦ let same : Some priority ≡ Some rival = sym mine ∙ ap (priority_at b) (sym e)
        ∙ theirs in let number : priority ≡ rival = cc in omega (arith, number)
    | inr ne ↦ absurd (let off = bit_at-pow_other place other ne in omega (arith, off, asks))
  ];
}

-- what asks in a tick: each seat by its child
abbrev pub SeatsAsk : (asking : ℕ → Bool) (masks : ℕ → ℕ) → (c : ℕ) → Option Node → Type 0
SeatsAsk asking masks c node = (port : ℕ) (seat : Seat) (p slot : ℕ) → seat_of node port ≡ Some seat
    → seat.place ≡ At p slot → slot_asks (masks p) slot ≡ asking c

pub seat_asks : (asking : ℕ → Bool) (masks : ℕ → ℕ) (c q at : ℕ) (own : Seat) → own.place ≡ At q at
    → slot_asks (masks q) at ≡ asking c → (port : ℕ) (seat : Seat) (p slot : ℕ)
    → slice_get (own ∷ []) port ≡ Some seat → seat.place ≡ At p slot → slot_asks (masks p) slot ≡ asking c
seat_asks asking masks c q at own there so port seat p slot e is =
    let same = same_slot q at p slot (sym there ∙ placed own seat port p slot e is) in
    rw (same.node, same.place) so

pub root_asks_so : (asking : ℕ → Bool) (masks : ℕ → ℕ) (c : ℕ) (own : Seat) → own.place ≡ Processor
    → (port : ℕ) (seat : Seat) (p slot : ℕ) → slice_get (own ∷ []) port ≡ Some seat
    → seat.place ≡ At p slot → slot_asks (masks p) slot ≡ asking c
root_asks_so asking masks c own there port seat p slot e is =
    let no_slot = sym there ∙ placed own seat port p slot e is in
    absurd (cc)

-- and no slot that is free
abbrev pub FreeSilent : (masks : ℕ → ℕ) → (p : ℕ) → Option Node → Type 0
FreeSilent masks p node = (slot : ℕ) → terms_at (book_of node) slot ≡ None → slot_asks (masks p) slot ≡ false

pub one_silent : (masks : ℕ → ℕ) (p place : ℕ) (node : Option Node) → masks p ≡ 2 ^ place
    → terms_at (book_of node) place ≢ None → FreeSilent masks p node
one_silent masks p place any is taken slot none = elim (cases_eq slot place) [
  | inl e ↦ absurd (taken (ap (terms_at (book_of any)) (sym e) ∙ none))
  | inr ne ↦ rw is (bit_off place slot ne)
]

pub all_silent : (masks : ℕ → ℕ) (p : ℕ) (node : Option Node) → masks p ≡ 0 → FreeSilent masks p node
all_silent masks p any is slot none = rw is (zero_off slot)

-- a scheduler where there is one
abbrev pub the : Option Node → Scheduler
the (Some (Loaded s)) = s
the _ = record { name = []; config = configs.Cpu; book = empty_book 0 0 0; ports = [] }
