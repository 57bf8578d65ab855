-- Shares that exist: a rate and an error in lowest terms, within their limits.
use Rattle.std.proofs.Common.{◌≡◌, ℕ, ◌*◌, ◌-◌, ◌^◌, ◌≤◌, ◌⊎◌, inl, inr, zero, suc, refl, ap, ◌∙◌, arith, mul-le-mul}
use Rattle.std.proofs.Common.{mul-le-mul_left}
use Rattle.std.proofs.Math.Nat.{le_of_mul-le-mul_right}
use Rattle.hls_frac.specs.declared.Frac.{Frac}
use Rattle.hls_frac.specs.Frac.{IsQuotient}
use Rattle.hls_frac.proofs.Quotients.{quotient_of}
use Rattle.hls_guarantee.specs.declared.Guarantee.{Guarantee}
use Rattle.hls_guarantee.specs.declared.Guarantee.TheVariants.{All, Null, Resb, Resc, Psbe}
use Rattle.hls_guarantee.specs.Limits.{IsReservation, IsShare, IsValid, IsNarrow}
use Rattle.hls_rules.proofs.Sizes.{quotient-within}

none-or-some : (n : ℕ) → (n ≡ 0) ⊎ (1 ≤ n)
none-or-some zero = inl refl
none-or-some (suc n) = inr (omega arith)

rate-some : (n d : ℕ) (f : Frac) → 1 ≤ n → IsQuotient f n d → 1 ≤ f.num
rate-some n d f some quotient =
    let bound : 1 * 1 ≤ n * f.den = mul-le-mul some f.positive in
    elim (none-or-some f.num) [
      | inl none ↦
          let gone : f.num * d ≡ 0 = ap (λ (k : ℕ). k * d) none ∙ omega arith in
          absurd (omega arith)
      | inr more ↦ more
    ]

rate-fits : (n d : ℕ) (f : Frac) → 1 ≤ d → n ≤ d → IsQuotient f n d → f.num ≤ f.den
rate-fits n d f some fits quotient =
    let most : f.num * d ≤ f.den * d = omega (arith, mul-le-mul_left f.den fits) in
    le_of_mul-le-mul_right {k = d} most some

-- quotients of bounded numbers are a share within these bounds
pub quotients-share : (top bottom n d m e : ℕ) (f g : Frac) → 1 ≤ n → n ≤ d → 1 ≤ e → n ≤ top → d ≤ bottom
    → m ≤ top → e ≤ bottom → IsQuotient f n d → IsQuotient g m e → IsShare top bottom f g
quotients-share top bottom n d m e f g some fits pos n_most d_most m_most e_most rate error = record {
  some = rate-some n d f some rate;
  fits = rate-fits n d f (omega arith) fits rate;
  rate = quotient-within f n d top bottom (omega arith) n_most d_most rate;
  error = quotient-within g m e top bottom pos m_most e_most error;
}

-- the share x / y with the error n / y
pub record Made (x y n : ℕ) : Type 0 where
  pub s : Frac
  pub d : Frac
  pub rate : IsQuotient s x y
  pub error : IsQuotient d n y
  pub narrow : IsNarrow (Psbe s d)

pub share-narrow : (x y n : ℕ) (s d : Frac) → IsReservation x y → n ≤ 10 ^ 10 → IsQuotient s x y
    → IsQuotient d n y → IsNarrow (Psbe s d)
share-narrow x y n s d size most rate error =
    quotients-share (10 ^ 10) (10 ^ 6) x y n y s d size.some size.fits (omega (arith, size.some, size.fits))
    (omega (arith, size.fits, size.size)) (omega (arith, size.size)) most (omega (arith, size.size)) rate error

make : (x y n : ℕ) → IsReservation x y → n ≤ 10 ^ 10 → Made x y n
make x y n size most =
    let pos : 1 ≤ y = omega (arith, size.some, size.fits) in
    let s = quotient_of x y pos in
    let d = quotient_of n y pos in
    record {
      s = s.0;
      d = d.0;
      rate = s.1;
      error = d.1;
      narrow = share-narrow x y n s.0 d.0 size most s.1 d.1;
    }

pub windows-most : (x y : ℕ) → IsReservation x y → x * (y - x) ≤ 10 ^ 10
windows-most x y size =
    let first : x ≤ 20000 = omega (arith, size.fits, size.size) in
    let second : y - x ≤ 20000 = omega (arith, size.fits, size.size) in
    let product : x * (y - x) ≤ 20000 * 20000 = mul-le-mul first second in
    omega (arith, product)

pub blocks-most : (x y : ℕ) → IsReservation x y → x * (2 * (y - x)) ≤ 10 ^ 10
blocks-most x y size =
    let first : x ≤ 20000 = omega (arith, size.fits, size.size) in
    let second : 2 * (y - x) ≤ 40000 = omega (arith, size.fits, size.size) in
    let product : x * (2 * (y - x)) ≤ 20000 * 40000 = mul-le-mul first second in
    omega (arith, product)

-- a reservation as a share
pub make-blocks : (x y : ℕ) → IsReservation x y → Made x y (x * (2 * (y - x)))
make-blocks x y size = make x y (x * (2 * (y - x))) size (blocks-most x y size)

pub make-windows : (x y : ℕ) → IsReservation x y → Made x y (x * (y - x))
make-windows x y size = make x y (x * (y - x)) size (windows-most x y size)

-- what is within the limits of a scenario is within those of derivations
pub narrow-valid : (g : Guarantee) → IsNarrow g → IsValid g
narrow-valid All v = v
narrow-valid Null v = v
narrow-valid (Resb hard x y) v = v
narrow-valid (Resc hard x y) v = v
narrow-valid (Psbe s d) v = record {
  some = v.some;
  fits = v.fits;
  rate = record { num = omega (arith, v.rate.num); den = omega (arith, v.rate.den) };
  error = record { num = omega (arith, v.error.num); den = omega (arith, v.error.den) };
}
