-- The sizes of reservations as numbers that are computed.
use Rattle.std.proofs.Common.{◌≡◌, ℕ, ◌+◌, ◌*◌, ◌-◌, ◌/◌, ◌≤◌, ◌<◌, ◌↔◌}
use Rattle.std.proofs.Common.{◌∙◌, inl, inr, Bool, false, sym, subst, ap, arith, mul-pos}
use Rattle.std.specs.Prelude.{Option, Some, max}
use Rattle.std.proofs.Math.Nat.{le-div_iff_mul-le, mul-le-mul_right, mul-le-mul_left}
use Rattle.std.proofs.Math.Nat.{le_of_mul-le-mul_right}
use Rattle.hls_frac.specs.declared.Frac.{Frac}
use Rattle.hls_guarantee.specs.declared.Guarantee.{Guarantee}
use Rattle.hls_guarantee.specs.declared.Guarantee.TheVariants.{Resb, Resc}
use Rattle.hls_offer_laws.specs.Candidates.{IsLeast, Slides, Spreads, Provides, IsDirectSize}
use Rattle.hls_offer_laws.proofs.SizeLaws.{spreads-some}
use Rattle.hls_offer_laws.proofs.Extremes.{ceiling, ceiling-least}
use Rattle.hls_offer_laws.proofs.Counting.{least-one}

abbrev pub slide_of : (ticks period y : ℕ) → ℕ
slide_of ticks period y = max ticks (y - (period - ticks) / 2)

pub slides-least : (ticks period y : ℕ) → ticks ≤ period
    → IsLeast (λ size. Slides ticks period size y) (slide_of ticks period y)
slides-least ticks period y fits = record {
  meets = (omega arith, omega arith);
  least = λ less both. (let low = both.0 in let high = both.1 in omega arith);
}

provides-up : (x y e sn dn sd dd : ℕ) → 1 ≤ sn → 1 ≤ dd → y ≤ x + dn * sd / (2 * sn * dd)
    → 2 * (y - x) * sn * dd ≤ dn * sd
provides-up x y e sn dn sd dd some pos le =
    let less : (y - x) * (2 * sn * dd) ≤ dn * sd =
    (le-div_iff_mul-le (mul-pos (mul-pos {m = 2} (omega arith) some) pos)).0 (omega arith) in
    omega (arith, less)

provides-low : (x y sn dn sd dd : ℕ) → 1 ≤ sn → 1 ≤ dd → 2 * (y - x) * sn * dd ≤ dn * sd
    → y ≤ x + dn * sd / (2 * sn * dd)
provides-low x y sn dn sd dd some pos under =
    let less : y - x ≤ dn * sd / (2 * sn * dd) =
    (le-div_iff_mul-le (mul-pos (mul-pos {m = 2} (omega arith) some) pos)).1 (omega (arith, under)) in
    omega arith

pub provides-least : (s d : Frac) (y : ℕ) → 1 ≤ s.num
    → IsLeast (λ size. Provides s d size y) (max (ceiling (s.num * y) s.den) (y - d.num * s.den / (2 * s.num * d.den)))
provides-least s d y some =
    let rate = ceiling-least (s.num * y) s.den s.positive in
    let c : ℕ = ceiling (s.num * y) s.den in
    let slack : ℕ = d.num * s.den / (2 * s.num * d.den) in
    let best : ℕ = max c (y - slack) in
    record {
      meets = (
        (let more : c * s.den ≤ best * s.den = mul-le-mul_right s.den (omega arith) in omega (arith, rate.meets, more)),
        provides-up best y 0 s.num d.num s.den d.den some d.positive (omega arith),
      );
      least = λ less provides.
          let low : c ≤ less = rate.least less provides.0 in
          let high : y ≤ less + slack = provides-low less y s.num d.num s.den d.den some d.positive provides.1 in
          omega arith;
    }

-- ---- what spreads, spreads with more ticks

pub spreads-more : (ticks period x z y : ℕ) → 1 ≤ ticks → 1 ≤ y → x ≤ z → z ≤ y → Spreads ticks period x y
    → Spreads ticks period z y
spreads-more ticks period x z y some pos le fits under =
    let xpos : 1 ≤ x = spreads-some ticks period x y some pos under in
    let scaled : (ticks * y + x * (2 * (y - x))) * z ≤ x * period * z = mul-le-mul_right z under in
    let owed : ticks * y * x ≤ ticks * y * z = mul-le-mul_left (ticks * y) le in
    let late : x * z * (2 * (y - z)) ≤ x * z * (2 * (y - x)) = mul-le-mul_left (x * z) (omega arith) in
    le_of_mul-le-mul_right {k = x} (omega (arith, scaled, owed, late)) xpos

pub spreads-all : (ticks period y : ℕ) → ticks ≤ period → Spreads ticks period y y
spreads-all ticks period y le =
    let most : ticks * y ≤ period * y = mul-le-mul_right y le in
    let gone : y - y ≡ 0 = omega arith in
    let none : y * (2 * (y - y)) ≡ y * (2 * 0) = ap (λ (v : ℕ). y * (2 * v)) gone in
    omega (arith, most, none)

-- where x ticks do not, no fewer do
pub spreads-none : (ticks period x y : ℕ) → 1 ≤ ticks → 1 ≤ y → x ≤ y → (Spreads ticks period x y → ⊥)
    → (less : ℕ) → less < x + 1 → Spreads ticks period less y → ⊥
spreads-none ticks period x y some pos fits not less under held =
    not (spreads-more ticks period less x y some pos (omega arith) fits held)

-- a least number is found, if it is no more than y
pub up-to-least : {P : ℕ → Type 0} (found : Option ℕ) (n y : ℕ) → IsLeast P n
    → ((x : ℕ) → (found ≡ Some x) ↔ ((x ≡ n) × (x ≤ y))) → (x : ℕ)
    → (found ≡ Some x) ↔ (IsLeast P x × (x ≤ y))
up-to-least {P} found n y least up x = (
  λ is. (let both = (up x).0 is in (subst (λ v. IsLeast P v) (sym both.0) least, both.1)),
  λ both. (up x).1 (least-one both.0 least, both.1),
)

-- ---- of what is wanted

pub of-windows : (wanted : Guarantee) (hard : Bool) (ticks period y : ℕ) (found : Option ℕ) (x : ℕ)
    → wanted ≡ Resc hard ticks period → hard ≡ false
    → (found ≡ Some x) ↔ (IsLeast (λ size. Slides ticks period size y) x × (x ≤ y))
    → (found ≡ Some x) ↔ (IsDirectSize wanted x y × (x ≤ y))
of-windows wanted hard ticks period y found x is soft up =
    let e : wanted ≡ Resc false ticks period = is ∙ ap (λ (v : Bool). Resc v ticks period) soft in
    subst (λ v. (found ≡ Some x) ↔ (IsDirectSize v x y × (x ≤ y))) (sym e) up

pub of-blocks : (wanted : Guarantee) (hard : Bool) (ticks period y : ℕ) (found : Option ℕ) (x : ℕ)
    → wanted ≡ Resb hard ticks period → hard ≡ false → (y ≡ period → ⊥)
    → (found ≡ Some x) ↔ (IsLeast (λ size. Slides ticks period size y) x × (x ≤ y))
    → (found ≡ Some x) ↔ (IsDirectSize wanted x y × (x ≤ y))
of-blocks wanted hard ticks period y found x is soft other up =
    let e : wanted ≡ Resb false ticks period = is ∙ ap (λ (v : Bool). Resb v ticks period) soft in
    let its : IsDirectSize (Resb false ticks period) x y → IsLeast (λ size. Slides ticks period size y) x =
    λ size. elim size [ inl own ↦ absurd (other own.0) | inr least ↦ least.1 ] in
    subst (λ v. (found ≡ Some x) ↔ (IsDirectSize v x y × (x ≤ y))) (sym e) (
      λ found. (let both = up.0 found in (inr (other, both.0), both.1)),
      λ both. up.1 (its both.0, both.1),
    )
