-- What a seat of x ticks in every y is served, whatever the others do.
use Rattle.std.specs.Prelude.{◌≡◌, ℕ, ◌+◌, ◌*◌, ◌-◌, ◌≤◌, ◌<◌, Bool, true}
use Rattle.hls_chron.specs.Ledger.{Ledger, now_of}
use Rattle.hls_chron.specs.Parts.{all_parts, parts}
use Rattle.hls_chron.specs.Seats.{asked, served}
use Rattle.hls_guarantee.specs.declared.Guarantee.TheVariants.{Resb}
use Rattle.hls_guarantee.specs.Satisfaction.{Satisfies}
use Rattle.hls_guarantee.specs.Service.{EveryPart}

-- Of any n ticks since its seating, or since the last settling if that is later: in parts, at most their share and
-- twice the budget; in ticks, at most twice the budget and the share of the ticks beyond that many, where the span is
-- not so long that rounding the parts up makes a tick.
pub record IsCapped (b : Ledger) (slot x y since : ℕ) : Type 0 where
  pub in_parts : EveryPart (λ i n got. got * all_parts ≤ parts x y * n + 2 * x * all_parts) (served b slot) since
      (now_of b)
  pub in_ticks : EveryPart (λ i n got. y * (y + n) ≤ all_parts → got * y ≤ 2 * x * y + x * (n - 2 * x)) (served b slot)
      since (now_of b)

-- the budget in each period of any run of ticks in which it asks
abbrev pub HasBudgets : Ledger → (slot : ℕ) → (hard : Bool) → (x y since : ℕ) → Type 0
HasBudgets b slot hard x y since =
    (i j : ℕ) → since ≤ i → j ≤ now_of b → ((t : ℕ) → i ≤ t → t < j → asked b slot t ≡ true)
    → Satisfies (Resb hard x y) (served b slot) i j
