-- What the reservations that ask may use up to a bound, a tick: the demand of each, and the sum.
use Rattle.hls_chron.specs.Ranges.{most_slots}
use Rattle.std.specs.Prelude.{ℕ, ◌+◌, ◌*◌, ◌-◌, ◌/◌, nat_le, if◌then◌else◌}
use Rattle.hls_chron.specs.declared.plain.Terms.TheVariants as terms
use Rattle.hls_chron.specs.Ledger.{Ledger}
use Rattle.hls_kinds.specs.declared.reservations.Claim.{Claim}
use Rattle.hls_kinds.specs.declared.reservations.Reservation.{Reservation}
use Rattle.hls_kinds.specs.declared.tenant.Tenant.{Tenant}
use Rattle.hls_kinds.specs.declared.tenant.Tenant.TheVariants.{Sits}
use Rattle.hls_kinds.specs.Asks.{slot_asks}
use Rattle.hls_kinds.specs.Reservations.{claim_of}
use Rattle.hls_kinds.specs.Slots.{sum_below}
use Rattle.hls_kinds.specs.Tenants.{tenant_at}

-- the budget, where the deadline comes by the bound, and x ticks for each whole period from there to the bound
abbrev pub demand_of : Reservation → Claim → (bound : ℕ) → ℕ
demand_of r claim bound =
    if nat_le claim.deadline bound then claim.budget + (bound - claim.deadline) / r.y * r.x else 0

abbrev pub demand_in : Ledger → (mask slot bound : ℕ) → Tenant → ℕ
demand_in b mask slot bound (Sits (terms.Res hard x y) since) =
    let r : Reservation = record { x = x; y = y; since = since } in demand_of r (claim_of b mask slot r) bound
demand_in b mask slot bound _ = 0

abbrev pub demand_at : Ledger → (mask slot bound : ℕ) → ℕ
demand_at b mask slot bound =
    if slot_asks mask slot then demand_in b mask slot bound (tenant_at b slot) else 0

-- of all slots, where these ask
abbrev pub demand : Ledger → (mask bound : ℕ) → ℕ
demand b mask bound = sum_below (λ slot. demand_at b mask slot bound) most_slots
