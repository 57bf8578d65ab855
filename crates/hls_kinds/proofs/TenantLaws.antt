-- Who sits at a slot, said in two ways.
use Rattle.std.proofs.Common.{◌≡◌, ℕ, List, [], ◌∷◌, fold, refl, ap, ◌∙◌, Bool, true, false}
use Rattle.std.specs.Prelude.{Option, Some, None, if◌then◌else◌, ◌==◌}
use Rattle.hls_chron.specs.declared.book.Mark.{Mark}
use Rattle.hls_chron.specs.declared.book.Event.{Event}
use Rattle.hls_chron.specs.declared.book.Event.TheVariants.{Seat, Leave, Settle}
use Rattle.hls_chron.specs.declared.plain.Terms.{Terms}
use Rattle.hls_kinds.specs.declared.tenant.Tenant.{Tenant}
use Rattle.hls_kinds.specs.declared.tenant.Tenant.TheVariants.{Vacant, Sits, Left}
use Rattle.hls_chron.specs.Ledger.{Ledger}
use Rattle.hls_chron.specs.Seats.{terms_after, terms_at}
use Rattle.hls_kinds.specs.Tenants.{after_leaving, after_settling, tenant_after, tenant_at}

-- the terms of the seat, where one sits
abbrev pub seated_in : Tenant → Option Terms
seated_in Vacant = None
seated_in (Sits terms since) = Some terms
seated_in (Left terms since at) = None

left_seat : (tick : ℕ) (tenant : Tenant) → seated_in (after_leaving tick tenant) ≡ None
left_seat tick Vacant = refl
left_seat tick (Sits terms since) = refl
left_seat tick (Left terms since at) = refl

settled_seat : (tick : ℕ) (tenant : Tenant) → seated_in (after_settling tick tenant) ≡ seated_in tenant
settled_seat tick Vacant = refl
settled_seat tick (Sits terms since) = refl
settled_seat tick (Left terms since at) = refl

seat_by : (here : Bool) (terms : Terms) (tick : ℕ) (tenant : Tenant)
    → seated_in (if here then Sits terms tick else tenant) ≡ (if here then Some terms else seated_in tenant)
seat_by true terms tick tenant = refl
seat_by false terms tick tenant = refl

leave_by : (here : Bool) (tick : ℕ) (tenant : Tenant)
    → seated_in (if here then after_leaving tick tenant else tenant) ≡
    (if here then None else seated_in tenant)
leave_by true tick tenant = left_seat tick tenant
leave_by false tick tenant = refl

seated-after : (slot tick : ℕ) (tenant : Tenant) (event : Event)
    → seated_in (tenant_after slot tick tenant event) ≡ terms_after slot (seated_in tenant) event
seated-after slot tick tenant (Seat at terms) = seat_by (at == slot) terms tick tenant
seated-after slot tick tenant (Leave at) = leave_by (at == slot) tick tenant
seated-after slot tick tenant Settle = settled_seat tick tenant

seated-fold : (slot : ℕ) (tenant : Tenant) (marks : List Mark)
    → seated_in (fold (λ tenant (m : Mark). tenant_after slot m.tick tenant m.event) tenant marks)
    ≡ fold (λ taken (m : Mark). terms_after slot taken m.event) (seated_in tenant) marks
seated-fold slot tenant [] = refl
seated-fold slot tenant (m ∷ marks) =
    seated-fold slot (tenant_after slot m.tick tenant m.event) marks
    ∙ ap (λ terms. fold (λ taken (m : Mark). terms_after slot taken m.event) terms marks)
    (seated-after slot m.tick tenant m.event)

pub seated-terms : (b : Ledger) (slot : ℕ) → seated_in (tenant_at b slot) ≡ terms_at b slot
unfolding terms_at tenant_at
seated-terms b slot = seated-fold slot Vacant b.marks
