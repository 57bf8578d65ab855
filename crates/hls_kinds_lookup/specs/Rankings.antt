-- The rankings by which the kinds of schedulers choose: which slots take part, and by which key.
use Rattle.std.specs.Prelude.{ℕ, ◌<◌, Bool, ◌&&◌, Option, Some, None, is_some, nat_le, if◌then◌else◌}
use Rattle.hls_kinds_lookup.specs.declared.choice.Ranking.{Ranking}
use Rattle.hls_kinds_lookup.specs.declared.choice.Ranked.{Ranked}
use Rattle.hls_kinds_lookup.specs.declared.choice.Ranking.TheVariants.{Priority, Budget, Soft, Tag, Turn}
use Rattle.hls_chron.specs.Ledger.{Ledger, now_of}
use Rattle.hls_chron.specs.Seats.{priority_at}
use Rattle.hls_kinds.specs.Asks.{slot_asks, asks_in_budget, asks_softly}
use Rattle.hls_kinds.specs.Reservations.{deadline_at}
use Rattle.hls_kinds.specs.Tags.{start_tag}
use Rattle.hls_kinds.specs.Turns.{turn_slot, turns_after}

abbrev pub number_or : Option ℕ → ℕ
number_or None = 0
number_or (Some number) = number

abbrev pub takes_part : Ranking → Ledger → (mask slot : ℕ) → Bool
takes_part Priority b mask slot = slot_asks mask slot && is_some (priority_at b slot)
takes_part Budget b mask slot = asks_in_budget b mask slot
takes_part Soft b mask slot = asks_softly b mask slot
takes_part (Tag quantum) b mask slot = slot_asks mask slot
takes_part Turn b mask slot = slot_asks mask slot

abbrev pub key_of : Ranking → Ledger → (mask slot : ℕ) → ℕ
key_of Priority b mask slot = number_or (priority_at b slot)
key_of Budget b mask slot = deadline_at b mask slot
key_of Soft b mask slot = deadline_at b mask slot
key_of (Tag quantum) b mask slot = start_tag quantum b (now_of b) slot
key_of Turn b mask slot = turns_after (turn_slot b) slot

-- turns have a quantum
abbrev pub HasQuantum : Ranking → Type 0
HasQuantum (Tag quantum) = 0 < quantum
HasQuantum _ = Unit {0}

-- the better of two: the second where its key is less
abbrev pub better_of : Option Ranked → Ranked → Ranked
better_of None other = other
better_of (Some held) other = if nat_le held.key other.key then held else other
