-- Whether a scheduler asks for the processor, by its configuration, its book and the slots that ask now.
use Rattle.hls_chron.specs.Ranges.{most_slots}
use Rattle.std.specs.Prelude.{ℕ, ◌^◌, Bool, false, not, ◌&&◌, ◌||◌, ◌==◌, nat_lt, Option, Some, None, bit_and, bit_or}
use Rattle.std.specs.Int.{bit_at, bit_not, w32}
use Rattle.hls_chron.specs.declared.plain.Config.{Config}
use Rattle.hls_chron.specs.declared.plain.Config.TheVariants.{Cpu, Fp, Edf, Sfq, Rr, Wheel, Join}
use Rattle.hls_chron.specs.Ledger.{Ledger}
use Rattle.hls_kinds.specs.Slots.{any_below}
use Rattle.hls_kinds.specs.Reservations.{budget_at, is_soft}
use Rattle.hls_kinds.specs.Frames.{owner_now}

-- some slot asks
abbrev pub some_slot_asks : ℕ → Bool
some_slot_asks mask = not (mask == 0)

abbrev pub slot_asks : (mask slot : ℕ) → Bool
slot_asks mask slot = bit_at mask slot == 1

-- the mask where a slot asks, and where it does not
abbrev pub with_slot : ℕ → ℕ → ℕ
with_slot slot mask = bit_or mask (2 ^ slot)

abbrev pub without_slot : ℕ → ℕ → ℕ
without_slot slot mask = bit_and mask (bit_not w32 (2 ^ slot))

-- the seat at the slot asks and has budget, and it asks and is soft
abbrev pub asks_in_budget : Ledger → (mask slot : ℕ) → Bool
asks_in_budget b mask slot = slot_asks mask slot && nat_lt 0 (budget_at b mask slot)

abbrev pub asks_softly : Ledger → (mask slot : ℕ) → Bool
asks_softly b mask slot = slot_asks mask slot && is_soft b slot

abbrev pub owner_asks : (mask : ℕ) → Option ℕ → Bool
owner_asks mask None = false
owner_asks mask (Some slot) = slot_asks mask slot

-- Reservations ask where an asking seat has budget or is soft, a wheel where the owner of the tick's
-- place asks, and the others where some seat asks.
abbrev pub asks : Config → Ledger → ℕ → Bool
asks Fp b mask = some_slot_asks mask
asks Edf b mask = any_below (λ slot. asks_in_budget b mask slot || asks_softly b mask slot) most_slots
asks (Sfq total most quantum) b mask = some_slot_asks mask
asks (Rr quantum) b mask = some_slot_asks mask
asks (Wheel frame) b mask = owner_asks mask (owner_now frame b)
asks (Join ports) b mask = some_slot_asks mask
asks Cpu b mask = false
