-- Rates and errors as products of whole numbers. A rate is a / b, c / d, or i / j; an error is p / q, r / s, or u / v.
use Rattle.std.proofs.Common.{◌≡◌, ℕ, ◌+◌, ◌*◌, ◌-◌, ◌<◌, ◌≤◌, ap, arith, mul-pos}
use Rattle.std.proofs.Math.Nat.{mul-le-mul_left, mul-le-mul_right, le_of_mul-le-mul_right}

pub fraction-trans : (n1 d1 n2 d2 n3 d3 : ℕ) → 0 < d2 → n1 * d2 ≤ n2 * d1 → n2 * d3 ≤ n3 * d2
    → n1 * d3 ≤ n3 * d1
fraction-trans n1 d1 n2 d2 n3 d3 pos le1 le2 =
    let up : n1 * d3 * d2 ≤ n3 * d1 * d2 = omega (arith, mul-le-mul_left d3 le1, mul-le-mul_left d1 le2) in
    le_of_mul-le-mul_right {k = d2} up pos

pub delay-trans : (a b p q c d r s i j u v : ℕ) → 0 < c → 0 < s → p * c * (s * b) ≤ r * a * (q * d)
    → r * i * (v * d) ≤ u * c * (s * j) → p * i * (v * b) ≤ u * a * (q * j)
delay-trans a b p q c d r s i j u v posc poss le1 le2 =
    omega (
      arith,
      fraction-trans (p * b) (q * a) (r * d) (s * c) (u * j) (v * i) (mul-pos poss posc)
          (omega arith) (omega arith),
    )

-- what the lesser covers, the better covers
pub covers-from : (a b p q c d r s x y : ℕ) → 0 < c → 0 < s → c * b ≤ a * d
    → p * c * (s * b) ≤ r * a * (q * d) → (x * s + r) * d ≤ c * y * s → (x * q + p) * b ≤ a * y * q
covers-from a b p q c d r s x y posc poss rate delay under =
    let up : (x * q + p) * b * (c * s) ≤ a * y * q * (c * s) =
    omega (arith, mul-le-mul_left (x * (q * s)) rate, mul-le-mul_left (a * q) under) in
    le_of_mul-le-mul_right {k = c * s} up (mul-pos posc poss)

pub covers-less : (a b p q x y e f : ℕ) → e ≤ x → y ≤ f → (x * q + p) * b ≤ a * y * q
    → (e * q + p) * b ≤ a * f * q
covers-less a b p q x y e f lex ley under =
    omega (arith, mul-le-mul_right (q * b) lex, mul-le-mul_left (a * q) ley)

-- a reservation that is covered has a lower rate and starts no earlier
pub covered-rate : (a b p q x y : ℕ) → 0 < q → (x * q + p) * b ≤ a * y * q → x * b ≤ a * y
covered-rate a b p q x y pos under =
    let up : x * b * q ≤ a * y * q = omega arith in
    le_of_mul-le-mul_right {k = q} up pos

pub covered-delay : (a b p q x y : ℕ) → a ≤ b → x ≤ y → (x * q + p) * b ≤ a * y * q
    → p * x * (y * b) ≤ x * (y - x) * a * (q * y)
covered-delay a b p q x y ab xy under =
    let split : y ≡ x + (y - x) = omega arith in
    let parts : a * y * q ≡ a * (x + (y - x)) * q = ap (λ v. a * v * q) split in
    let small : p * b ≤ a * ((y - x) * q) = omega (arith, parts, mul-le-mul_left (x * q) ab) in
    omega (arith, mul-le-mul_left (x * y) small)

-- one rate and one error, written with two pairs of numbers
pub same-delay : (a b p q x y n z : ℕ) → a * y ≡ x * b → p * z ≡ n * q
    → n * a * (q * y) ≡ p * x * (z * b)
same-delay a b p q x y n z rate error =
    omega (arith, ap (λ v. v * (a * y)) error, ap (λ v. p * z * v) rate)

pub reservations-delay : (x y d e f g : ℕ) → d ≤ g → x * d * e * (f * y) ≤ e * g * x * (y * f)
reservations-delay x y d e f g le = omega (arith, mul-le-mul_left (x * (y * (e * f))) le)

-- a weight's part of a share, n / t of whose error comes from the other seats
pub scaled-delay : (a b p q c d r s w t n : ℕ) → c * b ≤ a * d → p * c * (s * b) ≤ r * a * (q * d)
    → (w * p + n * q) * (c * w) * (t * s * (b * t)) ≤ (w * r + n * s) * (a * w) * (t * q * (d * t))
scaled-delay a b p q c d r s w t n rate delay =
    omega (arith, mul-le-mul_left (w * w * (t * t)) delay, mul-le-mul_left (n * q * s * (w * (t * t))) rate)

-- ---- windows of blocks, and windows of so many periods

-- what covers blocks covers the windows that they give
pub covers-blocks : (a b p q x y e f : ℕ) → a ≤ b → x ≤ y → e ≤ x → 2 * (y - x) + e ≤ f
    → (x * q + p) * b ≤ a * y * q → (e * q + p) * b ≤ a * f * q
covers-blocks a b p q x y e f ab xy ex far under =
    let dx : x ≡ e + (x - e) = omega arith in
    let dy : y ≡ x + (y - x) = omega arith in
    let f1 : x * q * b ≡ (e + (x - e)) * q * b = ap (λ v. v * q * b) dx in
    let f2 : a * (y * q) ≡ a * ((x + (y - x)) * q) = ap (λ v. a * (v * q)) dy in
    let f3 : a * (x * q) ≡ a * ((e + (x - e)) * q) = ap (λ v. a * (v * q)) dx in
    omega (arith, f1, f2, f3, mul-le-mul_left ((x - e) * q) ab, mul-le-mul_left (a * q) far)

-- what covers windows covers those of so many periods
pub covers-times : (a b p q x y k e f : ℕ) → 1 ≤ k → e ≤ k * x → k * y ≤ f → (x * q + p) * b ≤ a * y * q
    → (e * q + p) * b ≤ a * f * q
covers-times a b p q x y k e f some ex yf under =
    omega (
      arith,
      mul-le-mul_right (q * b) ex,
      mul-le-mul_left (p * b) some,
      mul-le-mul_left k under,
      mul-le-mul_left (a * q) yf,
    )

-- a part of x of y ticks with the error of blocks, where the windows c of d that blocks give come k times, k ≥ 2
pub blocks-times : (x y c d k e f : ℕ) → x ≤ y → c ≤ x → 2 * (y - x) + c ≤ d → 2 ≤ k → e ≤ k * c → k * d ≤ f
    → e * y + 2 * (x * (y - x)) ≤ x * f
blocks-times x y c d k e f xy cx far two ek kf =
    let dy : y ≡ x + (y - x) = omega arith in
    let f1 : k * c * y ≡ k * c * (x + (y - x)) = ap (λ v. k * c * v) dy in
    omega (
      arith,
      f1,
      mul-le-mul_right y ek,
      mul-le-mul_left x kf,
      mul-le-mul_left (x * k) far,
      mul-le-mul_left (k * (y - x)) cx,
      mul-le-mul_left (x * (y - x)) two,
    )

-- with the error of windows, where c of each block of d give windows, and are k times x of y
pub times-blocks : (x y c d k e f : ℕ) → x ≤ y → 1 ≤ k → c ≤ k * x → k * y ≤ d → e ≤ c → 2 * (d - c) + e ≤ f
    → e * y + x * (y - x) ≤ x * f
times-blocks x y c d k e f xy some ck kd ec far =
    let dy : y ≡ x + (y - x) = omega arith in
    let f1 : k * y ≡ k * (x + (y - x)) = ap (λ v. k * v) dy in
    let f2 : e * y ≡ e * (x + (y - x)) = ap (λ v. e * v) dy in
    let wide : k * (y - x) ≤ d - c = omega (arith, f1) in
    let low : e ≤ k * x = omega arith in
    omega (
      arith,
      f2,
      mul-le-mul_left x wide,
      mul-le-mul_left x far,
      mul-le-mul_right (y - x) low,
      mul-le-mul_left (x * (y - x)) some,
    )

-- the rate of the windows that blocks give
pub cross-blocks : (x y e f : ℕ) → x ≤ y → e ≤ x → 2 * y + e ≤ 2 * x + f → e * y ≤ x * f
cross-blocks x y e f xy lex far =
    let dy : y ≡ x + (y - x) = omega arith in
    let f1 : e * y ≡ e * (x + (y - x)) = ap (λ v. e * v) dy in
    let wide : 2 * (y - x) + e ≤ f = omega arith in
    omega (arith, f1, mul-le-mul_left x wide, mul-le-mul_right (y - x) lex)

-- the rate and the rest of windows of so many periods
pub cross-times : (x y k e f : ℕ) → e ≤ k * x → k * y ≤ f → e * y ≤ x * f
cross-times x y k e f lex far = omega (arith, mul-le-mul_right y lex, mul-le-mul_left x far)

pub rest-times : (x y k e f : ℕ) → x ≤ y → 1 ≤ k → e ≤ k * x → k * y ≤ f → y - x ≤ f - e
rest-times x y k e f xy some lex far =
    let dy : y ≡ x + (y - x) = omega arith in
    let f1 : k * y ≡ k * (x + (y - x)) = ap (λ v. k * v) dy in
    omega (arith, f1, mul-le-mul_right (y - x) some)
