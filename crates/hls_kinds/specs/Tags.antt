-- The tags of fair queueing by turns of a quantum, counted in a unit that each weight divides, and recomputed from the
-- book.
use Rattle.std.specs.Prelude.{◌≡◌, ℕ, zero, suc, ◌+◌, ◌*◌, ◌-◌, ◌/◌, max, Bool, not, ◌&&◌, Option, Some, None}
use Rattle.std.specs.Prelude.{is_some}
use Rattle.hls_chron.specs.declared.plain.Terms.TheVariants as terms
use Rattle.hls_kinds.specs.declared.tenant.Tenant.{Tenant}
use Rattle.hls_kinds.specs.declared.tenant.Tenant.TheVariants.{Sits}
use Rattle.hls_kinds.specs.declared.tags.Share.{Share}
use Rattle.hls_chron.specs.Ledger.{Ledger, row_at, before}
use Rattle.hls_chron.specs.Seats.{asked, served}
use Rattle.hls_chron.specs.Ticks.{count}
use Rattle.hls_kinds.specs.Ticks.{last_of, after_last}
use Rattle.hls_kinds.specs.Tenants.{tenant_then}
use Rattle.hls_kinds.specs.Turns.{turn_goes_on}

-- what a tick adds at weight 1: the least number that each weight up to 20 divides
abbrev pub unit_tag : ℕ
unit_tag = 232792560

-- what a tick adds at a weight
abbrev pub tag_step : ℕ → ℕ
tag_step weight = unit_tag / weight

-- the weight of a seat, and the tick of its seating or of a later settling
abbrev pub share_in : Tenant → Share
share_in (Sits (terms.Weight weight) since) = record { weight = weight; since = since }
share_in _ = record { weight = 0; since = 0 }

abbrev pub slot_or : Option ℕ → ℕ
slot_or None = 0
slot_or (Some slot) = slot

-- in tick t a slot was served whose turn began in it
abbrev pub begins_turn : (quantum : ℕ) → Ledger → (t : ℕ) → Bool
begins_turn quantum b t = is_some (row_at b t).to && not (turn_goes_on quantum (before t b) (row_at b t).mask)

-- Virtual time, finish tags and start tags go by the start tags of earlier ticks: start is the start tag
-- by tick and slot.
abbrev pub tag_served : Ledger → (start : ℕ → ℕ → ℕ) → Option ℕ → ℕ
tag_served b start None = 0
tag_served b start (Some t) = start t (slot_or (row_at b t).to)

-- the virtual time: the start tag of the slot whose turn was the last to begin before t
abbrev pub time_by : (quantum : ℕ) → Ledger → (start : ℕ → ℕ → ℕ) → ℕ → ℕ
time_by quantum b start t = tag_served b start (last_of (begins_turn quantum b) b.start (t - b.start))

abbrev pub finish_after : (quantum : ℕ) → Ledger → (start : ℕ → ℕ → ℕ) → Share → (slot : ℕ) → Option ℕ → ℕ
finish_after quantum b start share slot None =
    time_by quantum b start share.since + quantum * tag_step share.weight
finish_after quantum b start share slot (Some t) = start t slot + tag_step share.weight

-- the finish tag at t: a step after the tick that served the seat last, or the steps of a quantum after the virtual
-- time of its seating or settling
abbrev pub finish_by : (quantum : ℕ) → Ledger → (start : ℕ → ℕ → ℕ) → Share → (slot t : ℕ) → ℕ
finish_by quantum b start share slot t =
    finish_after quantum b start share slot (last_of (served b slot) share.since (t - share.since))

-- the tick, not before the seating or settling, from which on the slot asked in all ticks before t
abbrev pub asking_since : Ledger → (since slot t : ℕ) → ℕ
asking_since b since slot t = after_last (λ z. not (asked b slot z)) since (t - since)

-- the start tag at t: that of the tick from which on it asks, and a step for each tick served since then
abbrev pub start_of : (quantum : ℕ) → Ledger → (start : ℕ → ℕ → ℕ) → Share → (t slot : ℕ) → ℕ
start_of quantum b start share t slot =
    let r = asking_since b share.since slot t in
    max (time_by quantum b start r) (finish_by quantum b start share slot r)
    + count (served b slot) r (t - r) * tag_step share.weight

abbrev pub start_by : (quantum : ℕ) → Ledger → (start : ℕ → ℕ → ℕ) → (t slot : ℕ) → ℕ
start_by quantum b start t slot = start_of quantum b start (share_in (tenant_then b slot t)) t slot

-- Tags meet the rules where each is the one that the tags of earlier ticks give. No others do than these:
abbrev pub MeetTagRules : (quantum : ℕ) → Ledger → (tags : ℕ → ℕ → ℕ) → Type 0
MeetTagRules quantum b tags = (t slot : ℕ) → tags t slot ≡ start_by quantum b tags t slot

-- the start tags, right for the first n ticks of all
unfoldable pub start_tags : (quantum : ℕ) → Ledger → ℕ → (t slot : ℕ) → ℕ
start_tags quantum b zero t slot = 0
start_tags quantum b (suc n) t slot = start_by quantum b (start_tags quantum b n) t slot

-- the start tag of a slot at tick t
abbrev pub start_tag : (quantum : ℕ) → Ledger → (t slot : ℕ) → ℕ
start_tag quantum b t slot = start_tags quantum b (t + 1) t slot
