-- The servers of the slots of a book, and what a book of reservations keeps.
use Rattle.hls_chron.specs.Ranges.{most_slots}
use Rattle.std.specs.Prelude.{◌≡◌, ℕ, ◌+◌, ◌-◌, ◌≤◌, ◌<◌, Bool, true, false, Some, is_some, nat_lt}
use Rattle.std.specs.Prelude.{if◌then◌else◌}
use Rattle.hls_chron.specs.declared.plain.Config.TheVariants.{Edf}
use Rattle.hls_chron.specs.declared.plain.Terms.{Terms}
use Rattle.hls_chron.specs.declared.plain.Terms.TheVariants.{Res}
use Rattle.hls_chron.specs.Ledger.{Ledger, now_of, row_at, IsDated}
use Rattle.hls_chron.specs.Seats.{asked, served}
use Rattle.hls_kinds.specs.declared.tenant.Tenant.{Tenant}
use Rattle.hls_kinds.specs.declared.tenant.Tenant.TheVariants.{Vacant, Sits, Left}
use Rattle.hls_kinds.specs.declared.reservations.Reservation.{Reservation}
use Rattle.hls_kinds.specs.Tenants.{tenant_at, settled_at}
use Rattle.hls_chron.specs.Parts.{all_parts}
use Rattle.hls_kinds.specs.Reservations.{deadline_after, last_replenished}
use Rattle.hls_kinds.specs.Asks.{asks, slot_asks}
use Rattle.hls_book.specs.Promise.{asked_by}
use Rattle.hls_book.specs.declared.server.Server.{Server}
use Rattle.hls_book.specs.Servers.{vacant, marked, replenished, AreSound, HaveRoom}
use Rattle.hls_book.specs.Recomputed.{server_before}
use Rattle.hls_book.specs.Stays.{EachTick, EachHard}

-- the server of a reservation that left, while its deadline lies ahead
unfoldable pub held : Server → ℕ → Server
held server now = if nat_lt now server.deadline then marked server false else vacant

-- of who has a slot, before the replenishments of the tick `now`
abbrev pub server_of : Tenant → (asks serves : ℕ → Bool) → (now : ℕ) → Server
server_of (Sits (Res hard x y) since) asks serves now =
    server_before (record { x = x; y = y; since = since }) asks serves (now - since)
server_of (Left (Res hard x y) since at) asks serves now =
    held (server_before (record { x = x; y = y; since = since }) asks serves (at - since)) now
server_of _ asks serves now = vacant

-- of a slot, before the replenishments of the present tick, and after them where these slots ask
abbrev pub server_at : Ledger → ℕ → Server
server_at b slot = server_of (tenant_at b slot) (asked b slot) (served b slot) (now_of b)

abbrev pub amid_at : Ledger → (mask slot : ℕ) → Server
amid_at b mask slot = replenished all_parts (server_at b slot) (slot_asks mask slot) (now_of b)

abbrev pub IsReservation : Terms → Type 0
IsReservation (Res hard x y) = (0 < x) × (x ≤ y) × (y ≤ 10000)
IsReservation _ = ⊥

-- who has a slot has a reservation, and came and left by the tick `now`
abbrev pub IsTenant : Tenant → (now : ℕ) → Type 0
IsTenant Vacant now = Unit {0}
IsTenant (Sits terms since) now = IsReservation terms × (since ≤ now)
IsTenant (Left terms since at) now = IsReservation terms × (since ≤ at) × (at ≤ now)

-- the scheduler was given every tick in which it asked, since the start or the last settling
pub record IsGiven (b : Ledger) : Type 0 where
  pub given : (t : ℕ) → settled_at b ≤ t → t < now_of b → asked_by Edf b t ≡ true → is_some (row_at b t).to
      ≡ true

-- What the calls of a scheduler leave in its book. The seats and what is held fit the parts of the
-- processor, each seat has a reservation, only seats that ask are served, and hard ones from their budget
-- alone. Where the scheduler was given all that it asked for, what the slots may still use fits the ticks
-- to come, and no tick left a seat with more budget than ticks to its deadline.
pub record KeepsReservations (b : Ledger) : Type 0 where
  pub dated : IsDated b
  pub settled : settled_at b ≤ now_of b
  pub within : (slot : ℕ) → most_slots ≤ slot → tenant_at b slot ≡ Vacant
  pub tenants : (slot : ℕ) → IsTenant (tenant_at b slot) (now_of b)
  pub sound : AreSound all_parts most_slots (server_at b)
  pub sure : (slot t : ℕ) → t < now_of b → served b slot t ≡ true → asked b slot t ≡ true
  pub hard : (slot : ℕ) (r : Reservation) → tenant_at b slot ≡ Sits (Res true r.x r.y) r.since
      → EachHard r (asked b slot) (served b slot) (now_of b)
  pub room : IsGiven b → HaveRoom all_parts most_slots (server_at b) (now_of b)
  pub each : IsGiven b → (slot : ℕ) (hard : Bool) (r : Reservation)
      → tenant_at b slot ≡ Sits (Res hard r.x r.y) r.since → EachTick r (asked b slot) (served b slot)
      (now_of b)

-- A seat asks in tick t, and this is its deadline or later: the deadline by its last replenishment in the
-- ticks from its seating or settling on.
pub record ReachesDeadline (b : Ledger) (slot : ℕ) (r : Reservation) (t last : ℕ) : Type 0 where
  pub hard : Bool
  pub sits : tenant_at b slot ≡ Sits (Res hard r.x r.y) r.since
  pub since : r.since ≤ t
  pub past : t < now_of b
  pub asks : asked b slot t ≡ true
  pub replenished : last_replenished r (asked b slot) (served b slot) (t + 1 - r.since) ≡ Some last
  pub reached : deadline_after r (Some last) ≤ t + 1
