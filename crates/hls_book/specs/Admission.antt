-- What the admission of seats leaves in a book.
use Rattle.std.specs.Prelude.{◌≡◌, ◌≢◌, ℕ, ◌≤◌, ◌<◌, Some, None}
use Rattle.hls_chron.specs.declared.plain.Config.{Config}
use Rattle.hls_chron.specs.declared.plain.Terms.{Terms}
use Rattle.hls_chron.specs.Ledger.{Ledger, now_of, row_at, before, IsDated}
use Rattle.hls_chron.specs.Seats.{SlotAsks, terms_at}
use Rattle.hls_kinds.specs.declared.tenant.Tenant.TheVariants.{Sits}
use Rattle.hls_kinds.specs.Tenants.{tenant_at, settled_at}
use Rattle.hls_kinds.specs.Fits.{HasSeats}

-- A seat stands in the book before each tick since its seating, or since the last settling if that is later.
pub record HasStood (b : Ledger) : Type 0 where
  pub stood : (slot since t : ℕ) (terms : Terms) → tenant_at b slot ≡ Sits terms since → since ≤ t
      → t < now_of b → terms_at (before t b) slot ≡ Some terms
  pub later : (slot since : ℕ) (terms : Terms) → tenant_at b slot ≡ Sits terms since
      → (settled_at b ≤ since) × (since ≤ now_of b)
  pub settled : settled_at b ≤ now_of b

-- it is so now and was so before each tick, and in each tick only seats asked
pub record KeepsAdmission (config : Config) (b : Ledger) : Type 0 where
  pub dated : IsDated b
  pub seats : HasSeats config b
  pub stood : HasStood b
  pub had : (t : ℕ) → t < now_of b → HasSeats config (before t b)
  pub seated : (t slot : ℕ) → t < now_of b → SlotAsks (row_at b t).mask slot
      → terms_at (before t b) slot ≢ None
