-- Who may have a slot is a proposition, case by case.
use Rattle.std.specs.Prelude.{ℕ}
use Rattle.std.proofs.Props.{props}
use Rattle.hls_chron.specs.declared.plain.Terms.{Terms}
use Rattle.hls_chron.specs.declared.plain.Terms.TheVariants.{Res}
use Rattle.hls_kinds.specs.declared.tenant.Tenant.{Tenant}
use Rattle.hls_kinds.specs.declared.tenant.Tenant.TheVariants.{Vacant, Sits, Left}
use Rattle.hls_book.specs.Books.{IsReservation, IsTenant}

pub reservation_prop : (terms : Terms) → IsProp (IsReservation terms)
reservation_prop (Res hard x y) = hlevel props
reservation_prop _ = hlevel props

pub tenant_prop : (tenant : Tenant) (now : ℕ) → IsProp (IsTenant tenant now)
tenant_prop Vacant now = hlevel props
tenant_prop (Sits terms since) now = hlevel (props, reservation_prop)
tenant_prop (Left terms since at) now = hlevel (props, reservation_prop)
