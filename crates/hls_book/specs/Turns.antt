-- The rules of the turns of round robin and of fair queueing.
use Rattle.std.specs.Prelude.{◌≡◌, ◌≢◌, ◌⊎◌, ◌↔◌, ℕ, ◌+◌, ◌*◌, ◌<◌, ◌%◌, ◌/◌, ◌==◌, Some, None, true, if◌then◌else◌}
use Rattle.hls_chron.specs.declared.book.TickRow.{TickRow}
use Rattle.hls_chron.specs.declared.book.Event.TheVariants.{Seat, Leave, Settle}
use Rattle.hls_chron.specs.declared.plain.Terms.{Terms}
use Rattle.hls_chron.specs.Ledger.{Ledger, with_row, with_mark}
use Rattle.hls_chron.specs.Seats.{SlotAsks}
use Rattle.hls_kinds.specs.Turns.{turn_slot, turn_ticks, turn_goes_on}

-- whose turn it is, and how much of a quantum it has had: all of it where the turn is over, or there was none
pub record Turn : Type 0 where
  pub slot : ℕ
  pub had : ℕ

abbrev pub had_of : (quantum ticks : ℕ) → ℕ
had_of quantum ticks = if ticks % quantum == 0 then quantum else ticks % quantum

abbrev pub turn_of : (quantum : ℕ) → Ledger → Turn
turn_of quantum b = record { slot = turn_slot b; had = had_of quantum (turn_ticks b (turn_slot b)) }

abbrev pub over : (quantum : ℕ) → Turn → Turn
over quantum turn = record turn { had = quantum }

pub record KeepsTurnRules (quantum : ℕ) (b : Ledger) : Type 0 where
  -- a turn goes on where its slot asks and has not had its quantum
  pub goes : (mask : ℕ) → (turn_goes_on quantum b mask ≡ true)
      ↔ (SlotAsks mask (turn_slot b) × ((turn_of quantum b).had < quantum))
  -- a tick that goes on with a turn
  pub goes_on : (row : TickRow) → row.to ≡ Some (turn_slot b) → SlotAsks row.mask (turn_slot b)
      → (turn_of quantum b).had < quantum
      → turn_of quantum (with_row b row)
      ≡ record { slot = turn_slot b; had = (turn_of quantum b).had + 1 }
  -- a tick that begins one
  pub begins : (row : TickRow) (slot : ℕ) → row.to ≡ Some slot → SlotAsks row.mask slot
      → (slot ≢ turn_slot b) ⊎ ((turn_of quantum b).had ≡ quantum)
      → turn_of quantum (with_row b row) ≡ record { slot = slot; had = 1 }
  -- a tick that serves nobody: the turn goes on later where its slot asks, and is over where it does not
  pub waits : (row : TickRow) → row.to ≡ None → SlotAsks row.mask (turn_slot b)
      → turn_of quantum (with_row b row) ≡ turn_of quantum b
  pub ends : (row : TickRow) → row.to ≡ None → (SlotAsks row.mask (turn_slot b) → ⊥)
      → turn_of quantum (with_row b row) ≡ over quantum (turn_of quantum b)
  -- a leaving of its slot ends it, and no other
  pub left : turn_of quantum (with_mark b (Leave (turn_slot b))) ≡ over quantum (turn_of quantum b)
  pub stays : (slot : ℕ) → slot ≢ turn_slot b → turn_of quantum (with_mark b (Leave slot)) ≡ turn_of quantum b
  -- a seating changes nothing
  pub seated : (slot : ℕ) (terms : Terms) → turn_of quantum (with_mark b (Seat slot terms)) ≡ turn_of quantum b
  -- after a settling, as at the start, the first slot is next
  pub settled : turn_of quantum (with_mark b Settle) ≡ record { slot = 31; had = quantum }

-- what another slot may have while a seat asks: a quantum before the seat has its first tick, and one more for each
-- quantum that it has had
abbrev pub most_beside : (quantum own : ℕ) → ℕ
most_beside quantum own = quantum * (own / quantum + 1)
