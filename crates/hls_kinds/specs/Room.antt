-- The room of a scheduler, by its configuration and its book: the slots that are free, and what the seats
-- use up.
use Rattle.hls_chron.specs.Ranges.{most_slots}
use Rattle.std.specs.Prelude.{◌≡◌, ◌≢◌, ℕ, ◌-◌, ◌<◌, Option, Some, None, if◌then◌else◌}
use Rattle.hls_chron.specs.declared.plain.Config.{Config}
use Rattle.hls_chron.specs.declared.plain.Config.TheVariants as configs
use Rattle.hls_chron.specs.declared.plain.Terms.{Terms}
use Rattle.hls_chron.specs.declared.plain.Terms.TheVariants as terms
use Rattle.hls_kinds.specs.declared.tenant.Tenant.{Tenant}
use Rattle.hls_kinds.specs.declared.tenant.Tenant.TheVariants.{Left}
use Rattle.hls_chron.specs.Ledger.{Ledger}
use Rattle.hls_chron.specs.Seats.{terms_at, most_seats}
use Rattle.hls_kinds.specs.Slots.{sum_below}
use Rattle.hls_kinds.specs.Tenants.{tenant_at}
use Rattle.hls_chron.specs.Parts.{all_parts, parts}
use Rattle.hls_kinds.specs.Reservations.{is_held}
use Rattle.hls_kinds.specs.Frames.{owned_places}

abbrev pub terms_left : Tenant → Option Terms
terms_left (Left terms since at) = Some terms
terms_left _ = None

-- the terms that take up a slot: those of its seat, and of a reservation that left and is held
abbrev pub occupant_at : Config → Ledger → ℕ → Option Terms
occupant_at configs.Edf b slot = if is_held b slot then terms_left (tenant_at b slot) else terms_at b slot
occupant_at _ b slot = terms_at b slot

-- the least slot that nothing takes up
pub record IsFree (config : Config) (b : Ledger) (slot : ℕ) : Type 0 where
  pub within : slot < most_seats config
  pub free : occupant_at config b slot ≡ None
  pub least : (other : ℕ) → other < slot → occupant_at config b other ≢ None

-- every slot is taken up
abbrev pub IsFull : Config → Ledger → Type 0
IsFull config b = (slot : ℕ) → slot < most_seats config → occupant_at config b slot ≢ None

abbrev pub parts_in : Option Terms → ℕ
parts_in (Some (terms.Res hard x y)) = parts x y
parts_in _ = 0

abbrev pub weight_in : Option Terms → ℕ
weight_in (Some (terms.Weight weight)) = weight
weight_in _ = 0

-- Reservations use up parts, also while they are held; shares use up weight, and slots of a frame its places.
-- The other kinds have no room to use up.
abbrev pub room_used : Config → Ledger → ℕ
room_used configs.Edf b = sum_below (λ slot. parts_in (occupant_at configs.Edf b slot)) most_slots
room_used (configs.Sfq total most quantum) b = sum_below (λ slot. weight_in (terms_at b slot)) most_slots
room_used (configs.Wheel frame) b = owned_places frame b
room_used _ b = 0

-- the room that there is, and what a seat on some terms asks of it
abbrev pub room_total : Config → ℕ
room_total configs.Edf = all_parts
room_total (configs.Sfq total most quantum) = total
room_total (configs.Wheel frame) = frame
room_total _ = 0

abbrev pub room_asked : Config → Terms → ℕ
room_asked configs.Edf (terms.Res hard x y) = parts x y
room_asked (configs.Sfq total most quantum) (terms.Weight weight) = weight
room_asked (configs.Wheel frame) (terms.Slots places) = places
room_asked _ _ = 0

-- more is asked than is free
pub record LacksRoom (config : Config) (b : Ledger) (terms : Terms) (free asked : ℕ) : Type 0 where
  pub left : free ≡ room_total config - room_used config b
  pub asks : asked ≡ room_asked config terms
  pub lacks : free < asked
