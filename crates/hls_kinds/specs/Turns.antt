-- The turns of round robin and of fair queueing, recomputed from the book.
use Rattle.hls_chron.specs.Ranges.{most_slots}
use Rattle.std.specs.Prelude.{ℕ, ◌+◌, ◌-◌, ◌%◌, Bool, not, ◌&&◌, ◌||◌, ◌==◌, Option, Some, None}
use Rattle.std.specs.Prelude.{is_some}
use Rattle.std.specs.Int.{bit_at}
use Rattle.hls_chron.specs.Ledger.{Ledger, now_of, row_at}
use Rattle.hls_chron.specs.Seats.{asked, served}
use Rattle.hls_chron.specs.Ticks.{count}
use Rattle.hls_kinds.specs.Ticks.{last_of, after_last}
use Rattle.hls_kinds.specs.Tenants.{settled_at, left_at}

abbrev pub slot_served : Ledger → Option ℕ → Option ℕ
slot_served b None = None
slot_served b (Some t) = (row_at b t).to

abbrev pub slot_or_last : Option ℕ → ℕ
slot_or_last None = 31
slot_or_last (Some slot) = slot

-- the slot served last since the start or the last settling, or 31
abbrev pub turn_slot : Ledger → ℕ
turn_slot b =
    let since = settled_at b in
    slot_or_last (slot_served b (last_of (λ t. is_some (row_at b t).to) since (now_of b - since)))

-- tick t served another slot, or the slot did not ask in it
abbrev pub breaks_turn : Ledger → (slot t : ℕ) → Bool
breaks_turn b slot t = (is_some (row_at b t).to && not (served b slot t)) || not (asked b slot t)

-- the ticks that served the slot since another was served, it did not ask, it was left or the scheduler was
-- settled
abbrev pub turn_ticks : Ledger → ℕ → ℕ
turn_ticks b slot =
    let since = left_at b slot in
    let from = after_last (breaks_turn b slot) since (now_of b - since) in
    count (served b slot) from (now_of b - from)

-- the turn goes on: its slot asks, and it has had a part of a quantum
abbrev pub turn_goes_on : (quantum : ℕ) → Ledger → ℕ → Bool
turn_goes_on quantum b mask =
    bit_at mask (turn_slot b) == 1 && not (turn_ticks b (turn_slot b) % quantum == 0)

-- how far a slot comes after another in the cyclic order: 0 for the next, 31 for the slot itself
abbrev pub turns_after : (slot other : ℕ) → ℕ
turns_after slot other = (other + 31 - slot) % most_slots
