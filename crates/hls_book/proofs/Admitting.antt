-- What the admission of seats, their leaving, a settling and a tick leave of a book of reservations.
use Rattle.std.proofs.Common.{◌≡◌, ◌≢◌, ℕ, ◌+◌, ◌-◌, ◌<◌, ◌≤◌, sym, arith, inl, inr, ap, ◌∙◌, Bool}
use Rattle.std.proofs.Common.{None, refl}
use Rattle.std.proofs.lemmas.Bool.{cases_lt}
use Rattle.hls_chron.specs.declared.book.Event.TheVariants.{Seat, Leave}
use Rattle.hls_chron.specs.declared.plain.Config.TheVariants.{Edf}
use Rattle.hls_chron.specs.declared.plain.Terms.{Terms}
use Rattle.hls_chron.specs.declared.plain.Terms.TheVariants.{Res}
use Rattle.hls_chron.specs.Ledger.{Ledger, with_mark}
use Rattle.hls_chron.specs.Ranges.{TermsInRange}
use Rattle.hls_chron.specs.Seats.{terms_at}
use Rattle.hls_kinds.specs.declared.tenant.Tenant.{Tenant}
use Rattle.hls_kinds.specs.declared.tenant.Tenant.TheVariants.{Vacant, Sits, Left}
use Rattle.hls_kinds.specs.Tenants.{tenant_at}
use Rattle.hls_chron.specs.Parts.{all_parts, parts}
use Rattle.hls_kinds.specs.Room.{IsFree, room_used}
use Rattle.hls_kinds.specs.Fits.{Fits}
use Rattle.hls_kinds.proofs.TenantLaws.{seated_in, seated-terms}
use Rattle.hls_book.specs.Servers.{parts_in}
use Rattle.hls_book.specs.Books.{server_at, KeepsReservations}
use Rattle.hls_book.proofs.ServerKeeping.{keeps-seat, keeps-leave}
use Rattle.hls_book.proofs.Occupants.{slot-vacant, room-used}

-- the tenant of a slot that is taken
some_tenant : (tenant : Tenant) → seated_in tenant ≢ None → (terms : Terms) × (since : ℕ)
    × (tenant ≡ Sits terms since)
some_tenant Vacant taken = absurd (taken refl)
some_tenant (Sits terms since) taken = (terms, since, refl)
some_tenant (Left terms since at) taken = absurd (taken refl)

pub tenant_there : (b : Ledger) (slot : ℕ) → terms_at b slot ≢ None
    → (terms : Terms) × (since : ℕ) × (tenant_at b slot ≡ Sits terms since)
tenant_there b slot taken = some_tenant (tenant_at b slot) (λ none. taken (sym (seated-terms b slot) ∙ none))

pub taken_within : (b : Ledger) (slot : ℕ) → KeepsReservations b → terms_at b slot ≢ None → slot < 32
taken_within b slot keeps taken = elim (cases_lt slot 32) [
  | inl lt ↦ lt
  | inr beyond ↦ absurd (taken (sym (seated-terms b slot) ∙ ap seated_in (keeps.within slot beyond)))
]

-- a seating on terms that fit
fits_room : (b : Ledger) (hard : Bool) (x y : ℕ) → KeepsReservations b → Fits Edf b (Res hard x y)
    → parts_in (server_at b) 32 + parts x y ≤ all_parts
fits_room b hard x y keeps fits =
    let used = room-used b keeps.tenants in
    let within = keeps.sound.fits in
    let none : ¬ (all_parts - room_used Edf b < parts x y) = λ lacks.
    fits.room (all_parts - room_used Edf b) (parts x y)
    (record { left = refl; asks = refl; lacks = lacks }) in
    omega (arith, none, used, within)

pub keeps-seating : (b : Ledger) (slot : ℕ) (terms : Terms) → KeepsReservations b → TermsInRange terms
    → Fits Edf b terms
    → IsFree Edf b slot → KeepsReservations (with_mark b (Seat slot terms))
keeps-seating b slot (Res hard x y) keeps range fits free =
    keeps-seat b slot hard x y keeps free.within (slot-vacant b slot keeps.tenants free.free)
    (omega (arith, range.0), range.1, range.2) (fits_room b hard x y keeps fits)
keeps-seating b slot _ keeps range fits free = absurd (let kind = fits.of_kind in cc)

pub keeps-leaving : (b : Ledger) (slot : ℕ) → KeepsReservations b → terms_at b slot ≢ None
    → KeepsReservations (with_mark b (Leave slot))
keeps-leaving b slot keeps taken =
    let there = tenant_there b slot taken in
    keeps-leave b slot there.0 there.1 keeps (taken_within b slot keeps taken) there.2
