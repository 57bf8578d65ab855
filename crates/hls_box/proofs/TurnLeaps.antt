-- The turn of a box after a tick, and after many ticks, one after the other.
use Rattle.std.proofs.Common.{◌≡◌, ◌≢◌, ℕ, zero, suc, ◌+◌, ◌%◌, ◌<◌, Some, None, Bool, true, false}
use Rattle.std.proofs.Common.{refl, sym, ap, ◌∙◌, subst, arith}
use Rattle.std.specs.Prelude.{Option, is_some, ◌==◌, if◌then◌else◌}
use Rattle.std.specs.Int.{bit_at}
use Rattle.std.proofs.lemmas.Bool.{eq-eqb, eqb-true, eqb-false}
use Rattle.std.proofs.Math.Nat.{zero-mod, mod-lt}
use Rattle.hls_chron.specs.Ledger.{Ledger, with_row}
use Rattle.hls_kinds.specs.Asks.{slot_asks}
use Rattle.hls_kinds.specs.Turns.{turn_slot, turn_ticks}
use Rattle.hls_book.proofs.TurnLaws.{ticks-other}
use Rattle.hls_sched.specs.Seen.{Seen, turned, tick_row}
use Rattle.hls_box.specs.declared.turns.Turn.{Turn}
use Rattle.hls_box.specs.Turns.{KeepsTurn, turn_after, turn_leapt, had_by}
use Rattle.hls_box.proofs.Sounds.{row_serves, row_mask}
use Rattle.hls_box.proofs.Choosing.{IsRight, right_asks}
use Rattle.hls_box.proofs.Turning.{turn_row, one_more}

pub row_granted : (mask : ℕ) (grant choice : Option ℕ) (slot : ℕ) → (tick_row mask grant choice).to ≡ Some slot
    → is_some grant ≡ true
row_granted mask (Some port) choice slot is = refl
row_granted mask None choice slot is = absurd cc

-- a tick
pub turn_passed : (s t : Seen) (choice served : Option ℕ) (turn after : Turn) (quantum given mask : ℕ)
    → t ≡ turned choice s → KeepsTurn quantum s.book turn → given ≡ quantum → mask ≡ s.mask
    → served ≡ (tick_row s.mask s.grant choice).to → after ≡ turn_after given mask turn served
    → IsRight s choice → KeepsTurn quantum t.book after
turn_passed s t choice served turn after quantum given mask is kept same_quantum same_mask to is_after right =
    let row = tick_row s.mask s.grant choice in
    let at : row.mask ≡ s.mask = row_mask s.mask s.grant choice in
    let asks : (slot : ℕ) → served ≡ Some slot → slot_asks row.mask slot ≡ true = λ slot serves.
    rw at (eq-eqb (bit_at s.mask slot) 1 (right_asks s choice slot right
    (row_serves s.mask s.grant choice slot (sym to ∙ serves)))) in
    let passed = turn_row quantum s.book row turn kept served (sym to) asks in
    let with_mask = subst (λ m. KeepsTurn quantum (with_row s.book row) (turn_after quantum m turn served)) at passed in
    rw (is, is_after, same_quantum, same_mask) with_mask

-- the turn after n ticks, and after none
abbrev pub turn_by : (quantum mask : ℕ) → Turn → (served : Option ℕ) → (n : ℕ) → Turn
turn_by quantum mask turn served zero = turn
turn_by quantum mask turn served (suc n) = turn_leapt quantum mask turn served (suc n)

idle_again : (quantum mask : ℕ) (turn : Turn) (asks : Bool) → slot_asks mask turn.slot ≡ asks
    → (let once : Turn = if asks then turn else record { slot = turn.slot; ticks = 0 } in
    turn_after quantum mask once None ≡ once)
idle_again quantum mask turn true is = rw is refl
idle_again quantum mask turn false is = rw is refl

first_more : (quantum slot : ℕ) (turn : Turn) (same : Bool)
    → (let left : Turn = if same then record { slot = slot; ticks = (turn.ticks + 1) % quantum }
    else record { slot = slot; ticks = 1 % quantum } in
    let right : Turn = record { slot = slot; ticks = ((if same then turn.ticks else 0) + 1) % quantum } in
    left ≡ right)
first_more quantum slot turn true = refl
first_more quantum slot turn false = refl

next_more : (quantum mask slot had n : ℕ)
    → (let at : Turn = record { slot = slot; ticks = (had + n) % quantum } in
    let next : Turn = record { slot = slot; ticks = (had + suc n) % quantum } in
    turn_after quantum mask at (Some slot) ≡ next)
next_more quantum mask slot had n =
    let sum : (had + n) + 1 ≡ had + suc n = omega arith in
    rw (eq-eqb slot slot refl)
    (ap (λ (ticks : ℕ). record { slot = slot; ticks = ticks })
    (one_more (had + n) quantum ∙ ap (λ all. all % quantum) sum))

-- one tick more
pub turn_more : (quantum mask : ℕ) (turn : Turn) (served : Option ℕ) (n : ℕ)
    → turn_after quantum mask (turn_by quantum mask turn served n) served
    ≡ turn_by quantum mask turn served (suc n)
turn_more quantum mask turn None zero = refl
turn_more quantum mask turn None (suc n) = idle_again quantum mask turn (slot_asks mask turn.slot) refl
turn_more quantum mask turn (Some slot) zero = first_more quantum slot turn (slot == turn.slot)
turn_more quantum mask turn (Some slot) (suc n) =
    next_more quantum mask slot (had_by turn slot) (suc n)

pub turn_of_some : (quantum mask : ℕ) (turn : Turn) (served : Option ℕ) (n : ℕ) → 0 < n
    → turn_by quantum mask turn served n ≡ turn_leapt quantum mask turn served n
turn_of_some quantum mask turn served zero some = absurd (omega (arith, some))
turn_of_some quantum mask turn served (suc n) some = refl

-- its ticks are fewer than a quantum
pub few_ticks : (quantum : ℕ) (b : Ledger) (turn : Turn) → 0 < quantum → KeepsTurn quantum b turn
    → turn.ticks < quantum
few_ticks quantum b turn some kept = rw kept.ticks (mod-lt (turn_ticks b turn.slot) some)

pub had_few : (quantum : ℕ) (turn : Turn) (slot : ℕ) → turn.ticks < quantum → had_by turn slot < quantum
had_few quantum turn slot few = by_same (slot == turn.slot) where
  by_same : (same : Bool) → (if same then turn.ticks else 0) < quantum
  by_same true = few
  by_same false = omega (arith, few)

-- what a slot has had of its turn, by the book and by the turn that is kept
ticks_by : (quantum : ℕ) (b : Ledger) (turn : Turn) (slot : ℕ) (same : Bool) → (slot == turn.slot) ≡ same
    → KeepsTurn quantum b turn
    → turn_ticks b slot % quantum ≡ (if same then turn.ticks else 0)
ticks_by quantum b turn slot true is kept =
    rw (eqb-true slot turn.slot is) (sym kept.ticks)
ticks_by quantum b turn slot false is kept =
    let away : slot ≢ turn_slot b = λ e. eqb-false slot turn.slot is (e ∙ sym kept.slot) in
    ap (λ n. n % quantum) (ticks-other b slot (kept.settled slot) (kept.left slot) away) ∙ zero-mod quantum

pub had_kept : (quantum : ℕ) (b : Ledger) (turn : Turn) (slot : ℕ) → KeepsTurn quantum b turn
    → turn_ticks b slot % quantum ≡ had_by turn slot
had_kept quantum b turn slot kept = ticks_by quantum b turn slot (slot == turn.slot) refl kept
