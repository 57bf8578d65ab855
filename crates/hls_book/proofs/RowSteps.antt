-- One more row keeps the demand within the room.
use Rattle.std.proofs.Common.{◌≡◌, ◌≢◌, ℕ, ◌+◌, ◌-◌, ◌<◌, ◌≤◌, refl, sym, arith, inl, ◌∙◌, Bool, true, false}
use Rattle.std.proofs.Common.{Some, None}
use Rattle.std.specs.Prelude.{◌⊎◌, if◌then◌else◌}
use Rattle.hls_chron.specs.declared.book.TickRow.{TickRow}
use Rattle.hls_chron.specs.declared.plain.Terms.TheVariants.{Res}
use Rattle.hls_chron.specs.Ledger.{Ledger, now_of, with_row}
use Rattle.hls_chron.specs.Seats.{asked, served, is_slot}
use Rattle.hls_chron.proofs.BookLaws.{now_of-row}
use Rattle.hls_kinds.specs.declared.tenant.Tenant.{Tenant}
use Rattle.hls_kinds.specs.declared.tenant.Tenant.TheVariants.{Vacant, Sits, Left}
use Rattle.hls_kinds.specs.declared.reservations.Reservation.{Reservation}
use Rattle.hls_kinds.specs.Tenants.{tenant_at}
use Rattle.hls_chron.specs.Parts.{all_parts}
use Rattle.hls_kinds.specs.Asks.{slot_asks}
use Rattle.hls_kinds.proofs.TenantLaws.{seated_in}
use Rattle.hls_book.specs.declared.server.Server.{Server}
use Rattle.hls_book.specs.Servers.{AreSound, HaveRoom, vacant, charged, replenished}
use Rattle.hls_book.specs.Choosing.{IsChosen, IsTick}
use Rattle.hls_book.specs.Recomputed.{server_before}
use Rattle.hls_book.specs.Books.{held, server_of, server_at, amid_at, IsTenant}
use Rattle.hls_book.proofs.Replenishing.{replenished-off, replenished-on, replenishing-sound}
use Rattle.hls_book.proofs.Replenishing.{replenishing-room}
use Rattle.hls_book.proofs.Ticking.{ticking-sound, ticking-room}
use Rattle.hls_book.proofs.Marks.{ending-sound, ending-room}
use Rattle.hls_book.proofs.Budgets.{replenished_ahead}
use Rattle.hls_book.proofs.Parts.{parts-paid}
use Rattle.hls_book.proofs.Rows.{slot-is, slot-not, is-slot, tenant_at-row, sits_row, left_row, held_off}

-- the server of a slot where it has this tenant
abbrev pub server_now : Ledger → ℕ → Tenant → Server
server_now b slot tenant = server_of tenant (asked b slot) (served b slot) (now_of b)

-- after the tick of a row
abbrev pub after_tick : (to_it asks : Bool) → Server → ℕ → Server
after_tick to_it asks old now =
    if to_it then charged (replenished all_parts old asks now) else replenished all_parts old asks now

-- only seats ask, and who is served asks
pub record IsAsking (b : Ledger) (row : TickRow) : Type 0 where
  pub seats : (slot : ℕ) → slot_asks row.mask slot ≡ true → seated_in (tenant_at b slot) ≢ None
  pub asks : (slot : ℕ) → row.to ≡ Some slot → slot_asks row.mask slot ≡ true

-- the server goes on, or it was held and ends
abbrev pub GoesOn : (tick new : Server) → ℕ → Type 0
GoesOn tick new now = (new ≡ tick) ⊎ ((tick.deadline ≤ now + 1) × (new ≡ vacant))

silent_row : (old new : Server) (to_it asks : Bool) (now : ℕ) → asks ≡ false → (to_it ≡ true → asks ≡ true)
    → replenished all_parts old false now ≡ old → GoesOn old new now → GoesOn (after_tick to_it asks old now)
    new now
silent_row old new true asks now off sure same goes = absurd (let on = sure refl in cc)
silent_row old new false asks now off sure same goes = rw (off, same) goes

idle_row : (old new : Server) (to_it asks : Bool) (now : ℕ) → (asks ≡ true → ⊥)
    → (to_it ≡ true → asks ≡ true)
    → replenished all_parts old false now ≡ old → GoesOn old new now → GoesOn (after_tick to_it asks old now)
    new now
idle_row old new to_it true now none sure same goes = absurd (none refl)
idle_row old new to_it false now none sure same goes = silent_row old new to_it false now refl sure same goes

slot_case : (b : Ledger) (row : TickRow) (slot : ℕ) (tenant : Tenant) → IsTenant tenant (now_of b)
    → (slot_asks row.mask slot ≡ true → seated_in tenant ≢ None)
    → (is_slot row.to slot ≡ true → slot_asks row.mask slot ≡ true)
    → GoesOn (after_tick (is_slot row.to slot) (slot_asks row.mask slot) (server_now b slot tenant)
    (now_of b))
    (server_now (with_row b row) slot tenant) (now_of b)
slot_case b row slot Vacant is seat sure =
    idle_row vacant vacant (is_slot row.to slot) (slot_asks row.mask slot) (now_of b) (λ on. seat on refl)
    sure
    (replenished-off all_parts vacant (now_of b)) (inl refl)
slot_case b row slot (Sits (Res hard x y) since) is seat sure =
    inl (sits_row b row slot (record { x = x; y = y; since = since }) is.1 sure)
slot_case b row slot (Left (Res hard x y) since at) is seat sure =
    let r : Reservation = record { x = x; y = y; since = since } in
    let old : Server = server_before r (asked b slot) (served b slot) (at - since) in
    idle_row (held old (now_of b)) _ (is_slot row.to slot) (slot_asks row.mask slot) (now_of b)
    (λ on. seat on refl)
    sure (replenished-off all_parts (held old (now_of b)) (now_of b) ∙ held_off old (now_of b))
    (left_row b row slot r at is.1 is.2)
slot_case b row slot (Sits _ since) is seat sure = absurd is.0
slot_case b row slot (Left _ since at) is seat sure = absurd is.0

-- what a seat has
seat_case : (b : Ledger) (slot : ℕ) (tenant : Tenant) → IsTenant tenant (now_of b) → seated_in tenant ≢ None
    → (0 < (server_now b slot tenant).parts) × (0 < (server_now b slot tenant).y)
seat_case b slot Vacant is seat = absurd (seat refl)
seat_case b slot (Sits (Res hard x y) since) is seat =
    let some : 0 < x = is.0.0 in let narrow : x ≤ y = is.0.1 in (parts-paid x y some narrow, omega arith)
seat_case b slot (Left terms since at) is seat = absurd (seat refl)
seat_case b slot (Sits _ since) is seat = absurd is.0

-- every slot has a tenant that may be there
abbrev pub HasTenants : Ledger → Type 0
HasTenants b = (slot : ℕ) → IsTenant (tenant_at b slot) (now_of b)

abbrev pub ticked : Ledger → TickRow → ℕ → Server
ticked b row slot = if is_slot row.to slot then charged (amid_at b row.mask slot) else amid_at b row.mask slot

pub slot_row : (b : Ledger) (row : TickRow) (slot : ℕ) → HasTenants b → IsAsking b row
    → GoesOn (ticked b row slot) (server_at (with_row b row) slot) (now_of b)
slot_row b row slot tenants is =
    rw (tenant_at-row b row slot) (slot_case b row slot (tenant_at b slot) (tenants slot) (is.seats slot)
    (λ e. is.asks slot (is-slot row.to slot e)))

tick_is : (b : Ledger) (row : TickRow) → IsTick (amid_at b row.mask) row.to (ticked b row)
tick_is b row = record {
  other = λ slot ne. rw (slot-not row.to slot ne) refl;
  one = λ slot e. rw (slot-is row.to slot e) refl;
}

pub live_row : (b : Ledger) (row : TickRow) → HasTenants b → IsAsking b row → (slot : ℕ)
    → slot_asks row.mask slot ≡ true → (0 < (server_at b slot).parts) × (0 < (server_at b slot).y)
live_row b row tenants is slot on = seat_case b slot (tenant_at b slot) (tenants slot) (is.seats slot on)

amid_sound : (b : Ledger) (row : TickRow) → HasTenants b → IsAsking b row
    → AreSound all_parts 32 (server_at b)
    → AreSound all_parts 32 (amid_at b row.mask)
amid_sound b row tenants is kept =
    replenishing-sound all_parts 32 (server_at b) (slot_asks row.mask) (now_of b) kept
    (λ slot lt on. (live_row b row tenants is slot on).0)

pub row-sound : (b : Ledger) (row : TickRow) → HasTenants b → IsAsking b row
    → AreSound all_parts 32 (server_at b)
    → AreSound all_parts 32 (server_at (with_row b row))
row-sound b row tenants is kept =
    let after : AreSound all_parts 32 (ticked b row) = ticking-sound all_parts 32 (amid_at b row.mask)
    (ticked b row)
    row.to (amid_sound b row tenants is kept) (tick_is b row) in
    ending-sound all_parts 32 (now_of b + 1) (ticked b row) (server_at (with_row b row)) after
    (λ slot lt. slot_row b row slot tenants is)

-- after the replenishments, the deadline of each seat that asks lies ahead
row_ahead : (b : Ledger) (row : TickRow) → HasTenants b → IsAsking b row
    → AreSound all_parts 32 (server_at b)
    → HaveRoom all_parts 32 (server_at b) (now_of b) → (slot : ℕ) → slot < 32
    → (amid_at b row.mask slot).asked ≡ true → now_of b + 1 ≤ (amid_at b row.mask slot).deadline
row_ahead b row tenants is kept have slot lt on =
    let asks : slot_asks row.mask slot ≡ true =
    sym (replenished-on all_parts (server_at b slot) (slot_asks row.mask slot) (now_of b)) ∙ on in
    rw asks (replenished_ahead all_parts 32 (server_at b) (now_of b) slot (omega arith) lt kept have
    (live_row b row tenants is slot asks).1)

pub row-room : (b : Ledger) (row : TickRow) → HasTenants b → IsAsking b row
    → IsChosen 32 (amid_at b row.mask) row.to → AreSound all_parts 32 (server_at b)
    → HaveRoom all_parts 32 (server_at b) (now_of b)
    → HaveRoom all_parts 32 (server_at (with_row b row)) (now_of (with_row b row))
row-room b row tenants is chosen kept have =
    let room : HaveRoom all_parts 32 (amid_at b row.mask) (now_of b) =
    replenishing-room all_parts 32 (server_at b) (slot_asks row.mask) (now_of b) kept have in
    let after : HaveRoom all_parts 32 (ticked b row) (now_of b + 1) =
    ticking-room all_parts 32 (amid_at b row.mask) (ticked b row) row.to (now_of b)
    (amid_sound b row tenants is kept) room (row_ahead b row tenants is kept have) chosen (tick_is b row) in
    let end : HaveRoom all_parts 32 (server_at (with_row b row)) (now_of b + 1) =
    ending-room all_parts 32 (now_of b + 1) (ticked b row) (server_at (with_row b row)) after
    (λ slot lt. slot_row b row slot tenants is) in
    rw (now_of-row b row) end

later_case : (tenant : Tenant) (now : ℕ) → IsTenant tenant now → IsTenant tenant (now + 1)
later_case Vacant now is = tt
later_case (Sits terms since) now is = (is.0, omega (arith, is.1))
later_case (Left terms since at) now is = (is.0, is.1, omega (arith, is.2))

pub row-tenants : (b : Ledger) (row : TickRow) → HasTenants b → HasTenants (with_row b row)
row-tenants b row tenants = λ slot. rw (now_of-row b row, tenant_at-row b row slot)
    (later_case (tenant_at b slot) (now_of b) (tenants slot))
