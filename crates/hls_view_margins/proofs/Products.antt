-- Bounds of products.
use Rattle.std.proofs.Common.{ℕ, ◌*◌, ◌^◌, ◌≤◌, arith}
use Rattle.std.proofs.Math.Nat.{mul-le-mul_left, mul-le-mul_right}

pub mul_le : (a b m n : ℕ) → a ≤ m → b ≤ n → a * b ≤ m * n
mul_le a b m n one two = grind (arith, mul-le-mul_right b one, mul-le-mul_left m two)

pub share_small : (a b : ℕ) → a ≤ 10 ^ 13 → b ≤ 10 ^ 13 → a * b ≤ 10 ^ 28
share_small a b one two = omega (arith, mul_le a b (10 ^ 13) (10 ^ 13) one two)

pub price_small : (x w : ℕ) → x ≤ 20000 → w ≤ 10 ^ 18 → 2 * x * w ≤ 10 ^ 28
price_small x w one two =
    let twice : 2 * x ≤ 40000 = omega (arith, one) in
    omega (arith, mul_le (2 * x) w 40000 (10 ^ 18) twice two)
