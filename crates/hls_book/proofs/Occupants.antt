-- What takes up a slot, by its server.
use Rattle.std.proofs.Common.{◌≡◌, ◌≢◌, ℕ, ◌-◌, ◌<◌, ◌≤◌, refl, sym, arith, ap, Bool}
use Rattle.std.proofs.Common.{true, false}
use Rattle.std.proofs.Common.{Option, Some, None}
use Rattle.std.specs.Prelude.{nat_lt, if◌then◌else◌}
use Rattle.hls_chron.specs.declared.plain.Config.TheVariants.{Edf}
use Rattle.hls_chron.specs.declared.plain.Terms.{Terms}
use Rattle.hls_chron.specs.declared.plain.Terms.TheVariants.{Res}
use Rattle.hls_chron.specs.Ledger.{Ledger, now_of}
use Rattle.hls_chron.specs.Seats.{asked, served}
use Rattle.hls_kinds.specs.declared.tenant.Tenant.{Tenant}
use Rattle.hls_kinds.specs.declared.tenant.Tenant.TheVariants.{Vacant, Sits, Left}
use Rattle.hls_kinds.specs.declared.reservations.Reservation.{Reservation}
use Rattle.hls_kinds.specs.Slots.{sum_below}
use Rattle.hls_kinds.specs.Tenants.{tenant_at}
use Rattle.hls_chron.specs.Parts.{parts}
use Rattle.hls_kinds.specs.Reservations.{is_held, is_held_in}
use Rattle.hls_kinds.specs.Room.{terms_left, occupant_at, parts_in, room_used}
use Rattle.hls_kinds.proofs.TenantLaws.{seated_in, seated-terms}
use Rattle.hls_book.specs.declared.server.Server.{Server}
use Rattle.hls_book.specs.Servers.{vacant, marked}
use Rattle.hls_book.specs.Recomputed.{server_before}
use Rattle.hls_book.specs.Books.{held, server_at, IsTenant}
use Rattle.hls_book.proofs.Parts.{parts-paid}
use Rattle.hls_kinds.proofs.Sums.{sum-eq}
use Rattle.hls_book.proofs.RowSteps.{server_now, HasTenants}

abbrev pub occupant_of : Ledger → ℕ → Tenant → Option Terms
occupant_of b slot tenant = if is_held_in b slot tenant then terms_left tenant else seated_in tenant

pub occupant-is : (b : Ledger) (slot : ℕ) → occupant_at Edf b slot ≡ occupant_of b slot (tenant_at b slot)
unfolding is_held
occupant-is b slot = rw (← seated-terms b slot) refl

-- a slot is free, or its server has parts
pub record IsTaken (occupant : Option Terms) (server : Server) : Type 0 where
  pub some : occupant ≢ None
  pub paid : 0 < server.parts
  pub parts : parts_in occupant ≡ server.parts

pub record IsVacant (occupant : Option Terms) (server : Server) : Type 0 where
  pub none : occupant ≡ None
  pub vacant : server ≡ vacant

pub data Occupied (occupant : Option Terms) (server : Server) : Type 0 where
  taken : IsTaken occupant server → Occupied occupant server
  free : IsVacant occupant server → Occupied occupant server

some_none : (terms : Terms) → Some terms ≢ None
some_none terms e = cc

taken_by : (hard : Bool) (x y : ℕ) (server : Server) → 0 < x → x ≤ y → server.parts ≡ parts x y
    → Occupied (Some (Res hard x y)) server
taken_by hard x y server some narrow is = taken (record {
  some = some_none (Res hard x y);
  paid = rw is (parts-paid x y some narrow);
  parts = sym is;
})

held_case : (hard : Bool) (x y : ℕ) (c : Server) (now : ℕ) (is : Bool) → nat_lt now c.deadline ≡ is → 0 < x
    → x ≤ y
    → c.parts ≡ parts x y
    → Occupied (if is then Some (Res hard x y) else None) (if is then marked c false else vacant)
held_case hard x y c now true is some narrow same = taken_by hard x y (marked c false) some narrow same
held_case hard x y c now false is some narrow same = free (record { none = refl; vacant = refl })

occupied_case : (b : Ledger) (slot : ℕ) (tenant : Tenant) → IsTenant tenant (now_of b)
    → Occupied (occupant_of b slot tenant) (server_now b slot tenant)
unfolding held
occupied_case b slot Vacant is = free (record { none = refl; vacant = refl })
occupied_case b slot (Sits (Res hard x y) since) is =
    taken_by hard x y (server_now b slot (Sits (Res hard x y) since)) is.0.0 is.0.1 refl
occupied_case b slot (Left (Res hard x y) since at) is =
    let r : Reservation = record { x = x; y = y; since = since } in
    held_case hard x y (server_before r (asked b slot) (served b slot) (at - since)) (now_of b) _ refl is.0.0
    is.0.1
    refl
occupied_case b slot (Sits _ since) is = absurd is.0
occupied_case b slot (Left _ since at) is = absurd is.0

pub occupied : (b : Ledger) (slot : ℕ) → HasTenants b → Occupied (occupant_at Edf b slot) (server_at b slot)
occupied b slot tenants = rw (occupant-is b slot) (occupied_case b slot (tenant_at b slot) (tenants slot))

free_if : (occupant : Option Terms) (server : Server) → Occupied occupant server → server.parts ≡ 0
    → occupant ≡ None
free_if occupant server (taken is) none = absurd (omega (arith, is.paid, none))
free_if occupant server (free is) none = is.none

taken_if : (occupant : Option Terms) (server : Server) → Occupied occupant server → server.parts ≢ 0
    → occupant ≢ None
taken_if occupant server (taken is) some = is.some
taken_if occupant server (free is) some = λ none. some (ap (λ (c : Server). c.parts) is.vacant)

vacant_if : (occupant : Option Terms) (server : Server) → Occupied occupant server → occupant ≡ None
    → server ≡ vacant
vacant_if occupant server (taken is) none = absurd (is.some none)
vacant_if occupant server (free is) none = is.vacant

parts_if : (occupant : Option Terms) (server : Server) → Occupied occupant server
    → parts_in occupant ≡ server.parts
parts_if occupant server (taken is) = is.parts
parts_if occupant server (free is) = rw (is.none, is.vacant) refl

pub slot-free : (b : Ledger) (slot : ℕ) → HasTenants b → (server_at b slot).parts ≡ 0
    → occupant_at Edf b slot ≡ None
slot-free b slot tenants none = free_if _ (server_at b slot) (occupied b slot tenants) none

pub slot-taken : (b : Ledger) (slot : ℕ) → HasTenants b → (server_at b slot).parts ≢ 0
    → occupant_at Edf b slot ≢ None
slot-taken b slot tenants some = taken_if _ (server_at b slot) (occupied b slot tenants) some

pub slot-vacant : (b : Ledger) (slot : ℕ) → HasTenants b → occupant_at Edf b slot ≡ None → server_at b slot
    ≡ vacant
slot-vacant b slot tenants none = vacant_if (occupant_at Edf b slot) (server_at b slot)
    (occupied b slot tenants) none

pub room-used : (b : Ledger) → HasTenants b
    → room_used Edf b ≡ sum_below (λ slot. (server_at b slot).parts) 32
room-used b tenants = sum-eq (λ slot. parts_in (occupant_at Edf b slot)) (λ slot. (server_at b slot).parts)
    32
    (λ slot lt. parts_if (occupant_at Edf b slot) (server_at b slot) (occupied b slot tenants))
