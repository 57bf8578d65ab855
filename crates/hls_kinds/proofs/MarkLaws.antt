-- What a mark and a row change of who sits where, and of the last settling.
use Rattle.std.proofs.Common.{◌≡◌, ℕ, [], ◌∷◌, refl, ap, sym, ◌∙◌, fold}
use Rattle.std.specs.Prelude.{Some}
use Rattle.std.proofs.lemmas.List.Sums.{fold-append}
use Rattle.hls_chron.specs.declared.book.TickRow.{TickRow}
use Rattle.hls_chron.specs.declared.book.Mark.{Mark}
use Rattle.hls_chron.specs.declared.book.Event.{Event}
use Rattle.hls_chron.specs.declared.plain.Terms.{Terms}
use Rattle.hls_chron.specs.Ledger.{Ledger, now_of, with_row, with_mark}
use Rattle.hls_chron.specs.Seats.{terms_at}
use Rattle.hls_kinds.specs.declared.tenant.Tenant.TheVariants.{Vacant, Sits}
use Rattle.hls_kinds.specs.Tenants.{tenant_after, tenant_at, settled_after, settled_at}
use Rattle.hls_kinds.proofs.TenantLaws.{seated_in, seated-terms}

pub tenant_at-mark : (b : Ledger) (event : Event) (slot : ℕ)
    → tenant_at (with_mark b event) slot ≡ tenant_after slot (now_of b) (tenant_at b slot) event
unfolding tenant_at
tenant_at-mark b event slot =
    fold-append (λ tenant (m : Mark). tenant_after slot m.tick tenant m.event) Vacant b.marks
    (record { tick = now_of b; event = event } ∷ [])

pub tenant_at-row : (b : Ledger) (row : TickRow) (slot : ℕ) → tenant_at (with_row b row) slot ≡ tenant_at b slot
unfolding tenant_at
tenant_at-row b row slot = refl

pub tenant_at-same : (a b : Ledger) (slot : ℕ) → a.marks ≡ b.marks → tenant_at a slot ≡ tenant_at b slot
unfolding tenant_at
tenant_at-same a b slot same =
    ap (λ marks. fold (λ tenant (m : Mark). tenant_after slot m.tick tenant m.event) Vacant marks) same

pub tenant_at-unmarked : (b : Ledger) (slot : ℕ) → b.marks ≡ [] → tenant_at b slot ≡ Vacant
unfolding tenant_at
tenant_at-unmarked b slot unmarked = rw unmarked refl

pub settled_at-mark : (b : Ledger) (event : Event)
    → settled_at (with_mark b event) ≡ settled_after (now_of b) (settled_at b) event
unfolding settled_at
settled_at-mark b event =
    fold-append (λ last (m : Mark). settled_after m.tick last m.event) b.start b.marks
    (record { tick = now_of b; event = event } ∷ [])

pub settled_at-row : (b : Ledger) (row : TickRow) → settled_at (with_row b row) ≡ settled_at b
unfolding settled_at
settled_at-row b row = refl

pub settled_at-unmarked : (b : Ledger) → b.marks ≡ [] → settled_at b ≡ b.start
unfolding settled_at
settled_at-unmarked b unmarked = rw unmarked refl

-- who sits has the terms of the seat
pub sits_on : (b : Ledger) (slot since : ℕ) (terms : Terms) → tenant_at b slot ≡ Sits terms since
    → terms_at b slot ≡ Some terms
sits_on b slot since terms sits = sym (seated-terms b slot) ∙ ap seated_in sits
