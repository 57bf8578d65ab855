-- The order of fractions, by products of whole numbers.
use Rattle.std.proofs.Common.{◌≡◌, ℕ, ◌+◌, ◌*◌, ◌<◌, ◌≤◌, arith}
use Rattle.std.proofs.Math.Nat.{mul-le-mul, mul-le-mul_left, le_of_mul-le-mul_right}

-- a / b ≤ c / d ≤ e / f
pub cross_trans : (a b c d e f : ℕ) → 0 < d → a * d ≤ c * b → c * f ≤ e * d → a * f ≤ e * b
cross_trans a b c d e f pos low high =
    let scaled : a * f * d ≤ e * b * d = omega (arith, mul-le-mul_left f low, mul-le-mul_left b high) in
    le_of_mul-le-mul_right {k = d} scaled pos

-- a / b = c / d = e / f
pub cross_same : (a b c d e f : ℕ) → 0 < d → a * d ≡ c * b → c * f ≡ e * d → a * f ≡ e * b
cross_same a b c d e f pos low high =
    let up : a * f ≤ e * b = cross_trans a b c d e f pos (omega arith) (omega arith) in
    let down : e * b ≤ a * f = cross_trans e f c d a b pos (omega arith) (omega arith) in
    omega arith

-- the product of two fractions grows with both
pub cross_mul : (a b c d p q r s : ℕ) → a * d ≤ c * b → p * s ≤ r * q → a * p * (d * s) ≤ c * r * (b * q)
cross_mul a b c d p q r s left right =
    let both : a * d * (p * s) ≤ c * b * (r * q) = mul-le-mul left right in
    omega (arith, both)

-- the sum of two fractions grows with both
pub cross_add : (a b c d p q r s : ℕ) → a * d ≤ c * b → p * s ≤ r * q →
    (a * q + p * b) * (d * s) ≤ (c * s + r * d) * (b * q)
cross_add a b c d p q r s left right =
    omega (arith, mul-le-mul_left (q * s) left, mul-le-mul_left (b * d) right)
