-- Shares over plain numbers: s is sn / sd, d is dn / dd, and n of p ticks are served.
use Rattle.std.proofs.Common.{◌≡◌, ℕ, ◌+◌, ◌*◌, ◌-◌, ◌≤◌, arith, ap, mul-pos}
use Rattle.std.proofs.Common.{mul-le-mul_left, mul-le-mul_right}
use Rattle.std.proofs.Math.Nat.{le_of_mul-le-mul_right}

-- a lower rate, whose error lasts as long
pub share-less : (sn sd dn dd tn td fn fd p n : ℕ) → 1 ≤ sn → 1 ≤ dd → tn * sd ≤ sn * td →
    dn * tn * (fd * sd) ≤ fn * sn * (dd * td) → sn * p * dd ≤ (n * dd + dn) * sd →
    tn * p * fd ≤ (n * fd + fn) * td
share-less sn sd dn dd tn td fn fd p n some den rate error share =
    let first = mul-le-mul_left (tn * fd) share in
    let second = mul-le-mul_left (fd * dd * n) rate in
    le_of_mul-le-mul_right {k = sn * dd} (omega (arith, first, second, error)) (mul-pos some den)

-- a share reserves: r more ticks make up a window or a block of b
pub share-reserves : (sn sd dn dd a b p n : ℕ) → 1 ≤ sd → 1 ≤ dd → sn ≤ sd →
    (a * dd + dn) * sd ≤ sn * b * dd → p ≤ b → sn * p * dd ≤ (n * dd + dn) * sd → a + p ≤ b + n
share-reserves sn sd dn dd a b p n den den' one leads le share =
    let r : ℕ = b - p in
    let sum : b ≡ p + r = omega arith in
    let rest = mul-le-mul_right (r * dd) one in
    let whole = ap (λ (v : ℕ). sn * v * dd) sum in
    let most : a ≤ n + r =
    le_of_mul-le-mul_right {k = dd * sd} (omega (arith, leads, share, whole, rest)) (mul-pos den' den) in
    omega (arith, most)

-- x of y ticks with an error of m / y are a share
pub reserve-shares : (sn sd dn dd x y m p n : ℕ) → 1 ≤ y → sn * y ≡ x * sd → dn * y ≡ m * dd →
    x * p ≤ n * y + m → sn * p * dd ≤ (n * dd + dn) * sd
reserve-shares sn sd dn dd x y m p n some rate error most =
    let first = ap (λ (v : ℕ). v * (p * dd)) rate in
    let second = ap (λ (v : ℕ). v * sd) error in
    le_of_mul-le-mul_right {k = y} (omega (arith, first, second, mul-le-mul_right (dd * sd) most)) some

-- every tick gives each share
pub all-shares : (sn sd dn dd p : ℕ) → sn ≤ sd → sn * p * dd ≤ (p * dd + dn) * sd
all-shares sn sd dn dd p le = omega (arith, mul-le-mul_right (p * dd) le)
