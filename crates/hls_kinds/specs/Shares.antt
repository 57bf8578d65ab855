-- How fair queueing serves two seats that ask side by side: alike, each by its weight.
use Rattle.std.specs.Prelude.{◌≡◌, ℕ, ◌+◌, ◌*◌, ◌≤◌, ◌<◌, true}
use Rattle.hls_chron.specs.declared.plain.Config.{Config}
use Rattle.hls_chron.specs.declared.plain.Config.TheVariants.{Sfq}
use Rattle.hls_chron.specs.declared.plain.Terms.TheVariants.{Weight}
use Rattle.hls_kinds.specs.declared.tenant.Tenant.TheVariants.{Sits}
use Rattle.hls_chron.specs.Ledger.{Ledger, now_of}
use Rattle.hls_chron.specs.Seats.{asked, served}
use Rattle.hls_chron.specs.Ticks.{count}
use Rattle.hls_kinds.specs.Tenants.{tenant_then}

-- A seat of this weight was taken by tick i, and sat and asked from tick i to tick i + n, with no settling
-- after tick i.
pub record AsksThroughout (b : Ledger) (slot weight i n : ℕ) : Type 0 where
  pub since : ℕ
  pub sits : tenant_then b slot (i + n) ≡ Sits (Weight weight) since
  pub early : since ≤ i
  pub asks : (t : ℕ) → i ≤ t → t ≤ i + n → asked b slot t ≡ true

-- In the ticks from i to i + n, what two seats got, each divided by its weight, differs by at most the sum of
-- what a quantum is at the one weight and at the other.
abbrev pub KeepsSharesByWeight : (quantum : ℕ) → Ledger → Type 0
KeepsSharesByWeight quantum b =
    (i n slot other weight rival : ℕ) → i + n < now_of b
    → AsksThroughout b slot weight i n → AsksThroughout b other rival i n
    → count (served b slot) i (n + 1) * rival
    ≤ count (served b other) i (n + 1) * weight + quantum * (weight + rival)

abbrev pub KeepsShares : Config → Ledger → Type 0
KeepsShares (Sfq total most quantum) b = KeepsSharesByWeight quantum b
KeepsShares _ b = Unit {0}
