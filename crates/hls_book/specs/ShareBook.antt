-- What fair queueing leaves in its book, by how it admits seats and chooses among them in each tick.
use Rattle.std.specs.Prelude.{◌≡◌, ◌≢◌, ℕ, ◌+◌, ◌≤◌, ◌<◌, Some, None}
use Rattle.hls_chron.specs.declared.plain.Sharing.{Sharing}
use Rattle.hls_chron.specs.declared.plain.Terms.{Terms}
use Rattle.hls_chron.specs.declared.plain.Terms.TheVariants.{Weight}
use Rattle.hls_chron.specs.Kinds.{by_shares}
use Rattle.hls_chron.specs.Ranges.{IsWithin, ConfigInRange}
use Rattle.hls_chron.specs.Ledger.{Ledger, now_of, row_at, before}
use Rattle.hls_chron.specs.Seats.{terms_at}
use Rattle.hls_kinds.specs.declared.tenant.Tenant.TheVariants.{Sits}
use Rattle.hls_kinds.specs.Tenants.{tenant_then, settled_at, left_at}
use Rattle.hls_kinds.specs.Room.{room_used}
use Rattle.hls_kinds.specs.Discipline.{Serves}
use Rattle.hls_book.specs.Admission.{KeepsAdmission}

-- Who sits in a tick was seated or settled in it, or sat so in the tick before.
pub record KeepsSittings (b : Ledger) : Type 0 where
  pub first : (slot since : ℕ) (terms : Terms) → tenant_then b slot b.start ≡ Sits terms since
      → since ≡ b.start
  pub next : (t slot since : ℕ) (terms : Terms) → t < now_of b → tenant_then b slot (t + 1) ≡ Sits terms since
      → since ≢ t + 1 → tenant_then b slot t ≡ Sits terms since

-- When the scheduler was settled and slots were left, by tick: not before the start, not after the tick, and no slot
-- before the last settling. Where neither came in a tick, it is as in the tick before, and who sat there sits on.
pub record KeepsLeavings (b : Ledger) : Type 0 where
  pub begun : (t : ℕ) → t ≤ now_of b → b.start ≤ settled_at (before t b)
  pub settled : (t slot : ℕ) → t ≤ now_of b → settled_at (before t b) ≤ left_at (before t b) slot
  pub left : (t slot : ℕ) → b.start ≤ t → t ≤ now_of b → left_at (before t b) slot ≤ t
  pub settles : (t : ℕ) → t < now_of b → settled_at (before (t + 1) b) ≢ t + 1
      → settled_at (before (t + 1) b) ≡ settled_at (before t b)
  pub leaves : (t slot : ℕ) → t < now_of b → left_at (before (t + 1) b) slot ≢ t + 1
      → left_at (before (t + 1) b) slot ≡ left_at (before t b) slot
  pub sits_on : (t slot : ℕ) → t < now_of b → left_at (before (t + 1) b) slot ≢ t + 1
      → terms_at (before t b) slot ≢ None → tenant_then b slot (t + 1) ≡ tenant_then b slot t

-- the weights of the seats are in range, and sum to at most the total
pub record HasWeights (sharing : Sharing) (b : Ledger) : Type 0 where
  pub ranged : (slot weight : ℕ) → terms_at b slot ≡ Some (Weight weight) → IsWithin 1 20 weight
  pub fits : room_used (by_shares sharing) b ≤ sharing.total

-- Seats are admitted as they are, their weights fit now and before each tick, and each row served the slot of
-- the turn where it went on, else that of least start tag among those that asked.
pub record KeepsShareBook (sharing : Sharing) (b : Ledger) : Type 0 where
  pub range : ConfigInRange (by_shares sharing)
  pub admission : KeepsAdmission (by_shares sharing) b
  pub sittings : KeepsSittings b
  pub leavings : KeepsLeavings b
  pub weights : HasWeights sharing b
  pub had : (t : ℕ) → t < now_of b → HasWeights sharing (before t b)
  pub served : (t slot : ℕ) → t < now_of b → (row_at b t).to ≡ Some slot
      → Serves (by_shares sharing) (before t b) (row_at b t).mask slot
