-- What the seating and leaving of seats leaves of the owners of a frame's places.
use Rattle.std.specs.Prelude.{◌≡◌, ℕ, ◌≤◌, ◌<◌, Bool, false, Some, None}
use Rattle.hls_chron.specs.declared.plain.Terms.{Terms}
use Rattle.hls_chron.specs.declared.plain.Terms.TheVariants.{Slots}
use Rattle.hls_chron.specs.Ledger.{Ledger, now_of, before}
use Rattle.hls_chron.specs.Seats.{is_slot, terms_at}
use Rattle.hls_chron.specs.Ticks.{count}
use Rattle.hls_kinds.specs.declared.tenant.Tenant.TheVariants.{Sits}
use Rattle.hls_kinds.specs.Tenants.{tenant_at}
use Rattle.hls_kinds.specs.Frames.{owner_at}

-- the place is the slot's
abbrev pub owns_place : Ledger → (slot place : ℕ) → Bool
owns_place b slot place = is_slot (owner_at b place) slot

pub record KeepsPlaces (frame : ℕ) (b : Ledger) : Type 0 where
  -- where nobody sits, no place is owned
  pub lost : (slot place : ℕ) → terms_at b slot ≡ None → owns_place b slot place ≡ false
  -- a seat owns as many places of the frame as its terms say
  pub owns : (slot places : ℕ) → terms_at b slot ≡ Some (Slots places)
      → count (owns_place b slot) 0 frame ≡ places
  -- and it has owned them since its seating, or since the last settling if that is later
  pub stood : (slot since t place : ℕ) (terms : Terms) → tenant_at b slot ≡ Sits terms since → since ≤ t
      → t < now_of b → owns_place (before t b) slot place ≡ owns_place b slot place
