-- Lowest terms exist and are unique.
use Rattle.std.proofs.Common.{◌≡◌, ℕ, zero, suc, ◌+◌, ◌*◌, ◌/◌, ◌%◌, ◌<◌, ◌≤◌, ap, ◌∙◌, sym, subst, arith}
use Prim.Native.Nat.{◌∣◌}
use Rattle.std.specs.Int.{IsGcd}
use Rattle.std.proofs.lemmas.Nat.Gcd.{IsGcd-from_zero, IsGcd-from_mod, same_from_IsGcd, dvd_antisymm}
use Rattle.std.proofs.Math.Nat.{
  dvd_of_mul-dvd-mul_left,
  mul-div_cancel',
  mul-dvd-mul_left,
  one-dvd,
  pos_of_dvd_of_pos,
  add-mul-mod_self_left,
  mod-eq_of_lt,
  mul-le-mul_left,
  eq_of_mul-eq-mul_right,
  dvd-mul_left,
}

-- over a common divisor the value stays
crossed : (a b g n d : ℕ) → g * a ≡ n → g * b ≡ d → a * d ≡ n * b
crossed a b g n d e f =
    let middle : a * (g * b) ≡ g * a * b = omega arith in
    ap (λ x. a * x) (sym f) ∙ middle ∙ ap (λ x. x * b) e

pub same_value : (n d g : ℕ) → IsGcd n d g → n / g * d ≡ n * (d / g)
same_value n d g h = crossed (n / g) (d / g) g n d (mul-div_cancel' g h.0) (mul-div_cancel' g h.1)

pub den_positive : (n d g : ℕ) → 1 ≤ d → IsGcd n d g → 1 ≤ d / g
den_positive n d g some h =
    let down : g * (d / g) ≡ d = mul-div_cancel' g h.1 in
    grind arith

-- over the greatest common divisor only 1 divides both
pub over_gcd : (n d g : ℕ) → 1 ≤ d → IsGcd n d g → IsGcd (n / g) (d / g) 1
over_gcd n d g some h =
    let up : g * (n / g) ≡ n = mul-div_cancel' g h.0 in
    let down : g * (d / g) ≡ d = mul-div_cancel' g h.1 in
    let pos : 0 < g = pos_of_dvd_of_pos h.1 some in (
      one-dvd _,
      one-dvd _,
      λ k p q.
          let over_n : g * k ∣ n = subst (λ x. g * k ∣ x) up (mul-dvd-mul_left _ g p) in
          let over_d : g * k ∣ d = subst (λ x. g * k ∣ x) down (mul-dvd-mul_left _ g q) in
          let once : g ≡ g * 1 = omega arith in
          dvd_of_mul-dvd-mul_left k pos (subst (λ x. g * k ∣ x) once (h.2 (g * k) over_n over_d)),
    )

mul_mod : (k a b : ℕ) → 0 < k → 0 < b → k * a % (k * b) ≡ k * (a % b)
mul_mod k a b posk posb =
    let e : a ≡ a % b + b * (a / b) = omega arith in
    let scaled : k * a ≡ k * (a % b + b * (a / b)) = ap (λ v. k * v) e in
    let split : k * a ≡ k * (a % b) + k * b * (a / b) = omega (arith, scaled) in
    let low : a % b + 1 ≤ b = omega arith in
    let small : k * (a % b) < k * b = omega (arith, mul-le-mul_left k low) in
    ap (λ v. v % (k * b)) split ∙ add-mul-mod_self_left (k * (a % b)) (k * b) (a / b) ∙ mod-eq_of_lt small

-- a greatest common divisor, which every multiple of the two numbers has as a multiple
gcd_to : (fuel a b : ℕ) → b < fuel → (g : ℕ) × ((k : ℕ) → 0 < k → IsGcd (k * a) (k * b) (k * g))
gcd_to zero a b lt = absurd (omega arith)
gcd_to (suc f) a zero lt = (a, λ k pos. IsGcd-from_zero (k * a) (k * zero) (omega arith))
gcd_to (suc f) a (suc b) lt =
    let low : a % suc b < suc b = omega arith in
    let r = gcd_to f (suc b) (a % suc b) (omega arith) in (
      r.0,
      λ k pos.
          let modded = sym (mul_mod k a (suc b) pos (omega arith)) in
          let inner = subst (λ v. IsGcd (k * suc b) v (k * r.0)) modded (r.1 k pos) in
          IsGcd-from_mod (k * a) (k * suc b) (k * r.0) inner,
    )

one_times : (a b g : ℕ) → IsGcd (1 * a) (1 * b) (1 * g) → IsGcd a b g
one_times a b g h =
    let ea : 1 * a ≡ a = omega arith in
    let eb : 1 * b ≡ b = omega arith in
    let eg : 1 * g ≡ g = omega arith in
    let outer = subst (λ v. IsGcd (1 * a) (1 * b) v) eg h in
    subst (λ v. IsGcd v b g) ea (subst (λ v. IsGcd (1 * a) v g) eb outer)

-- two numbers have a greatest common divisor
pub gcd_of : (a b : ℕ) → (g : ℕ) × IsGcd a b g
gcd_of a b =
    let r = gcd_to (suc b) a b (omega arith) in
    (r.0, one_times a b r.0 (r.1 1 (omega arith)))

gcd_scaled : (a b k : ℕ) → 0 < k → IsGcd a b 1 → IsGcd (k * a) (k * b) k
gcd_scaled a b k pos low =
    let r = gcd_to (suc b) a b (omega arith) in
    let e : r.0 ≡ 1 = same_from_IsGcd a b r.0 1 (one_times a b r.0 (r.1 1 (omega arith))) low in
    let ek : k * r.0 ≡ k = ap (λ v. k * v) e ∙ omega arith in
    subst (λ v. IsGcd (k * a) (k * b) v) ek (r.1 k pos)

-- in lowest terms the denominator divides that of every fraction of the value
pub den_divides : (a b c d : ℕ) → 0 < d → IsGcd a b 1 → a * d ≡ c * b → b ∣ d
den_divides a b c d pos low e =
    let g = gcd_scaled a b d pos low in
    let flip : c * b ≡ d * a = omega (arith, e) in
    g.2 b (subst (λ v. b ∣ v) flip (dvd-mul_left b c)) (dvd-mul_left b d)

-- two fractions in lowest terms that have one value
pub lowest_same : (a b c d : ℕ) → 0 < b → 0 < d → IsGcd a b 1 → IsGcd c d 1 → a * d ≡ c * b →
    (a ≡ c) × (b ≡ d)
lowest_same a b c d posb posd low1 low2 e =
    let b_over = den_divides a b c d posd low1 e in
    let d_over = den_divides c d a b posb low2 (sym e) in
    let den : b ≡ d = dvd_antisymm b_over d_over in
    (eq_of_mul-eq-mul_right b posb a c (ap (λ v. a * v) den ∙ e), den)
