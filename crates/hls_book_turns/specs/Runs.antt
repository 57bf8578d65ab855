-- A run of ticks in which a seat of round robin asks, and how many others they serve.
use Rattle.hls_chron.specs.Ranges.{most_slots}
use Rattle.std.specs.Prelude.{◌≡◌, ℕ, ◌+◌, ◌≤◌, Bool, true, not, ◌&&◌, ◌==◌, nat_lt}
use Rattle.hls_chron.specs.declared.plain.Terms.TheVariants.{Turn}
use Rattle.hls_chron.specs.Ledger.{Ledger}
use Rattle.hls_chron.specs.Seats.{asked}
use Rattle.hls_chron.specs.Ticks.{one_if}
use Rattle.hls_kinds.specs.declared.tenant.Tenant.TheVariants.{Sits}
use Rattle.hls_kinds.specs.Slots.{sum_below}
use Rattle.hls_kinds.specs.Tenants.{tenant_then}
use Rattle.hls_book.specs.Runs.{served_ticks}

-- A seat was taken by tick i, and sat and asked from tick i to tick i + n, with no settling after tick i.
pub record AsksForTurns (b : Ledger) (slot i n : ℕ) : Type 0 where
  pub since : ℕ
  pub sits : tenant_then b slot (i + n) ≡ Sits Turn since
  pub early : since ≤ i
  pub asks : (t : ℕ) → i ≤ t → t ≤ i + n → asked b slot t ≡ true

-- how many other slots the n ticks from i on serve
abbrev pub is_rival : Ledger → (slot i n other : ℕ) → Bool
is_rival b slot i n other = not (other == slot) && nat_lt 0 (served_ticks b other i n)

abbrev pub rivals : Ledger → (slot i n : ℕ) → ℕ
rivals b slot i n = sum_below (λ other. one_if (is_rival b slot i n other)) most_slots
