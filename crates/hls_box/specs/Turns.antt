-- The turn that a box keeps, and what each call makes of it.
use Rattle.std.specs.Prelude.{◌≡◌, ℕ, ◌+◌, ◌%◌, ◌-◌, ◌≤◌, ◌==◌, ◌&&◌, not, Bool, Option, Some, None}
use Rattle.std.specs.Prelude.{if◌then◌else◌}
use Rattle.hls_chron.specs.Ledger.{Ledger, now_of}
use Rattle.hls_kinds.specs.Asks.{slot_asks}
use Rattle.hls_kinds.specs.Turns.{turn_slot, turn_ticks}
use Rattle.hls_kinds.specs.Tenants.{settled_at, left_at}
use Rattle.hls_box.specs.declared.turns.Turn.{Turn}

-- the slot of the turn, and its ticks but for whole quanta, are those of the book
pub record KeepsTurn (quantum : ℕ) (b : Ledger) (turn : Turn) : Type 0 where
  pub slot : turn.slot ≡ turn_slot b
  pub ticks : turn.ticks ≡ turn_ticks b turn.slot % quantum
  -- no slot was left after the present tick, nor before the last settling
  pub left : (slot : ℕ) → left_at b slot ≤ now_of b
  pub settled : (slot : ℕ) → settled_at b ≤ left_at b slot

-- the ticks that a slot has had of its present turn, and those that are left where it is served now
abbrev pub had_by : Turn → (slot : ℕ) → ℕ
had_by turn slot = if slot == turn.slot then turn.ticks else 0

abbrev pub left_by : (quantum : ℕ) → Turn → (slot : ℕ) → ℕ
left_by quantum turn slot = quantum - had_by turn slot

-- the turn goes on, where these slots ask
abbrev pub goes_on_by : (mask : ℕ) → Turn → Bool
goes_on_by mask turn = slot_asks mask turn.slot && not (turn.ticks == 0)

-- the turn after a tick that served a slot or nobody, where these slots asked
abbrev pub turn_after : (quantum mask : ℕ) → Turn → (served : Option ℕ) → Turn
turn_after quantum mask turn (Some slot) =
    if slot == turn.slot then record { slot = slot; ticks = (turn.ticks + 1) % quantum }
    else record { slot = slot; ticks = 1 % quantum }
turn_after quantum mask turn None =
    if slot_asks mask turn.slot then turn else record { slot = turn.slot; ticks = 0 }

-- the turn after a slot was left
abbrev pub turn_left : Turn → (slot : ℕ) → Turn
turn_left turn slot = if slot == turn.slot then record { slot = slot; ticks = 0 } else turn

-- the turn after n ticks, each of which served a slot or nobody, where these slots asked
abbrev pub turn_leapt : (quantum mask : ℕ) → Turn → (served : Option ℕ) → (n : ℕ) → Turn
turn_leapt quantum mask turn (Some slot) n =
    record { slot = slot; ticks = (had_by turn slot + n) % quantum }
turn_leapt quantum mask turn None n =
    if slot_asks mask turn.slot then turn else record { slot = turn.slot; ticks = 0 }
