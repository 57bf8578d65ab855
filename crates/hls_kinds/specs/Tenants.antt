-- Who has a slot, by the marks of a book, and since when.
use Rattle.std.specs.Prelude.{ℕ, ◌==◌, if◌then◌else◌, fold, Bool}
use Rattle.std.specs.Int.{bit_at}
use Rattle.hls_chron.specs.declared.book.Mark.{Mark}
use Rattle.hls_chron.specs.declared.book.Event.{Event}
use Rattle.hls_chron.specs.declared.book.Event.TheVariants.{Seat, Leave, Settle}
use Rattle.hls_kinds.specs.declared.tenant.Tenant.{Tenant}
use Rattle.hls_kinds.specs.declared.tenant.Tenant.TheVariants.{Vacant, Sits, Left}
use Rattle.hls_chron.specs.Ledger.{Ledger, now_of, before}
use Rattle.hls_chron.specs.Seats.{asked}

-- after a leaving at a tick, and after a settling at a tick
abbrev pub after_leaving : ℕ → Tenant → Tenant
after_leaving tick (Sits terms since) = Left terms since tick
after_leaving tick tenant = tenant

abbrev pub after_settling : ℕ → Tenant → Tenant
after_settling tick (Sits terms since) = Sits terms tick
after_settling tick (Left terms since at) = Vacant
after_settling tick Vacant = Vacant

abbrev pub tenant_after : (slot tick : ℕ) → Tenant → Event → Tenant
tenant_after slot tick tenant (Seat at terms) = if at == slot then Sits terms tick else tenant
tenant_after slot tick tenant (Leave at) = if at == slot then after_leaving tick tenant else tenant
tenant_after slot tick tenant Settle = after_settling tick tenant

unfoldable pub tenant_at : Ledger → ℕ → Tenant
tenant_at b slot = fold (λ tenant (m : Mark). tenant_after slot m.tick tenant m.event) Vacant b.marks

-- as of tick t
abbrev pub tenant_then : Ledger → ℕ → ℕ → Tenant
tenant_then b slot t = tenant_at (before t b) slot

abbrev pub settled_after : (tick : ℕ) → ℕ → Event → ℕ
settled_after tick last Settle = tick
settled_after tick last (Seat at terms) = last
settled_after tick last (Leave at) = last

-- the tick of the start, or of the last settling
unfoldable pub settled_at : Ledger → ℕ
settled_at b = fold (λ last (m : Mark). settled_after m.tick last m.event) b.start b.marks

abbrev pub left_after : (slot tick : ℕ) → ℕ → Event → ℕ
left_after slot tick last Settle = tick
left_after slot tick last (Seat at terms) = last
left_after slot tick last (Leave at) = if at == slot then tick else last

-- the tick of the start, of the last settling or of the last leaving of the slot, whichever is latest
unfoldable pub left_at : Ledger → ℕ → ℕ
left_at b slot = fold (λ last (m : Mark). left_after slot m.tick last m.event) b.start b.marks

-- the slot asks in tick t, where these slots ask in the present one
abbrev pub asking : Ledger → (mask slot : ℕ) → ℕ → Bool
asking b mask slot t = if t == now_of b then bit_at mask slot == 1 else asked b slot t
