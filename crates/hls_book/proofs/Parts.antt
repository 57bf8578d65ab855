-- What the parts of a reservation come to.
use Rattle.std.proofs.Common.{ℕ, ◌*◌, ◌<◌, ◌≤◌, arith, inl, inr}
use Rattle.std.proofs.Math.Nat.{mul-le-mul, mul-le-mul_right, le_of_mul-le-mul_right}
use Rattle.std.proofs.lemmas.Bool.{cases_lt}
use Rattle.hls_chron.specs.Parts.{parts}
use Rattle.hls_chron.proofs.PartLaws.{parts-rate}

pub parts-paid : (x y : ℕ) → 0 < x → x ≤ y → 0 < parts x y
parts-paid x y some narrow = elim (cases_lt 0 (parts x y)) [
  | inl paid ↦ paid
  | inr free ↦
      let none : parts x y * y ≤ 0 * y = mul-le-mul_right y free in
      absurd (omega (arith, parts-rate x y (omega arith), none, some))
]

-- the parts are no fewer than the ticks of a period
pub parts-big : (x y : ℕ) → 0 < x → x ≤ y → y ≤ 10000 → y ≤ parts x y
parts-big x y some narrow small =
    let square : y * y ≤ 10000 * 10000 = mul-le-mul small small in
    le_of_mul-le-mul_right {k = y} (omega (arith, parts-rate x y (omega arith), some)) (omega arith)
