-- The most ticks that a share, windows and blocks give, and the least within which a share gives one.
use Rattle.std.proofs.Common.{◌≡◌, ℕ, zero, suc, ◌+◌, ◌*◌, ◌-◌, ◌/◌}
use Rattle.std.proofs.Common.{◌%◌, ◌≤◌, ◌<◌, ◌⊎◌, inl, inr, subst, ap, arith, mul-pos}
use Rattle.std.specs.Prelude.{min}
use Rattle.std.proofs.Math.Nat.{le-div_iff_mul-le, lt_of_mul-lt-mul_right, mul-le-mul_left, mul-le-mul_right}
use Rattle.std.proofs.Math.Nat.{le_of_mul-le-mul_right}
use Rattle.std.proofs.lemmas.Bool.{cases_lt}
use Rattle.std.proofs.lemmas.Grind.{div_ceil_times}
use Rattle.hls_frac.specs.declared.Frac.{Frac}
use Rattle.hls_guarantee.specs.Conversions.{Covers, HasTimes}
use Rattle.hls_guarantee.proofs.Times.{most_times, times_of}
use Rattle.hls_offer_laws.specs.Candidates.{IsLeast, IsMost, Slides}

-- of y ticks, in parts of a rate a / b and an error p / q
abbrev pub most_of : (a b p q y : ℕ) → ℕ
most_of a b p q y = (a * y * q - p * b) / (b * q)

pub most-meets : (a b p q x y : ℕ) → 1 ≤ b → 1 ≤ q → p * b ≤ a * y * q → x ≤ most_of a b p q y
    → (x * q + p) * b ≤ a * y * q
most-meets a b p q x y posb posq some le =
    let under : x * (b * q) ≤ a * y * q - p * b = (le-div_iff_mul-le (mul-pos posb posq)).0 le in
    omega arith

pub meets-most : (a b p q x y : ℕ) → 1 ≤ b → 1 ≤ q → (x * q + p) * b ≤ a * y * q → x ≤ most_of a b p q y
meets-most a b p q x y posb posq under =
    (le-div_iff_mul-le (mul-pos posb posq)).1 (omega arith)

pub most-ticks : (s d : Frac) (y : ℕ) → d.num * s.den ≤ s.num * y * d.den
    → IsMost (λ ticks. Covers s d ticks y) (most_of s.num s.den d.num d.den y)
most-ticks s d y some = record {
  meets = most-meets s.num s.den d.num d.den _ y s.positive d.positive some (omega arith);
  most = λ more under. meets-most s.num s.den d.num d.den more y s.positive d.positive under;
}

-- rounded up
abbrev pub ceiling : (n d : ℕ) → ℕ
ceiling n d = n / d + min 1 (n % d)

pub ceiling-least : (n d : ℕ) → 1 ≤ d → IsLeast (λ t. n ≤ t * d) (ceiling n d)
ceiling-least n d pos =
    let times = div_ceil_times n d pos in
    record {
      meets = times.0;
      least = λ less under.
          let below : (n / d + min 1 (n % d)) * d < (less + 1) * d = omega (arith, times.1) in
          let under_next : n / d + min 1 (n % d) < less + 1 = lt_of_mul-lt-mul_right d below in
          omega arith;
    }

abbrev pub wait_of : (a b p q : ℕ) → ℕ
wait_of a b p q = ceiling ((q + p) * b) (a * q)

pub least-wait : (s d : Frac) → 1 ≤ s.num
    → IsLeast (λ ticks. Covers s d 1 ticks) (wait_of s.num s.den d.num d.den)
least-wait s d some =
    let least = ceiling-least ((d.den + d.num) * s.den) (s.num * d.den) (mul-pos some d.positive) in
    record {
      meets = omega (arith, least.meets);
      least = λ less under. least.least less (omega (arith, under));
    }

-- ---- so many windows

repeated-some : (ticks times : ℕ) → 1 ≤ times * ticks → 1 ≤ times
repeated-some ticks times some = elim (cases_lt times 1) [
  | inl none ↦ (let gone : times * ticks ≡ 0 * ticks = ap (λ (v : ℕ). v * ticks) (omega arith) in absurd (omega arith))
  | inr le ↦ le
]

pub repeated-most : (ticks period y : ℕ) → 1 ≤ period → 1 ≤ y / period * ticks
    → IsMost (λ more. HasTimes ticks period more y) (y / period * ticks)
repeated-most ticks period y pos some = record {
  meets = times_of ticks period (y / period * ticks) y pos (repeated-some ticks (y / period) some, omega arith);
  most = λ more has. (most_times ticks period more y pos has).1;
}

pub times-repeated : (ticks period x y : ℕ) → 1 ≤ period → HasTimes ticks period x y → x ≤ y / period * ticks
times-repeated ticks period x y pos has = (most_times ticks period x y pos has).1

-- no more ticks than there are
pub times-fit : (ticks period x y : ℕ) → ticks ≤ period → HasTimes ticks period x y → x ≤ y
times-fit ticks period x y fits has =
    let more : has.times * ticks ≤ has.times * period = mul-le-mul_left has.times fits in
    omega (arith, more, has.enough, has.within)

-- of one window its own
pub own-most : (ticks period : ℕ) → 1 ≤ period → IsMost (λ more. HasTimes ticks period more period) ticks
own-most ticks period some = record {
  meets = record { times = 1; some = omega arith; enough = omega arith; within = omega arith };
  most = λ more has.
      let few : has.times ≤ 1 = le_of_mul-le-mul_right {k = period} (omega (arith, has.within)) some in
      let own : has.times * ticks ≤ 1 * ticks = mul-le-mul_right ticks few in
      omega (arith, own, has.enough);
}

-- ---- blocks as windows

abbrev pub span_of : (ticks period y : ℕ) → ℕ
span_of ticks period y = min ticks (y - 2 * (period - ticks))

pub span-most : (ticks period y : ℕ) → ticks ≤ period → 1 ≤ span_of ticks period y
    → IsMost (λ more. Slides more y ticks period) (span_of ticks period y)
span-most ticks period y fits some = record {
  meets = (omega arith, omega arith);
  most = λ more slides. (let a = slides.0 in let b = slides.1 in omega arith);
}

pub slides-span : (x y ticks period : ℕ) → ticks ≤ period → Slides x y ticks period → x ≤ span_of ticks period y
slides-span x y ticks period fits slides = (let a = slides.0 in let b = slides.1 in omega arith)

pub slides-fit : (x y ticks period : ℕ) → ticks ≤ period → Slides x y ticks period → x ≤ y
slides-fit x y ticks period fits slides = (let a = slides.1 in omega arith)

-- ---- a least one

-- what holds of some number and can be told of each, holds of a least one
below : (P : ℕ → Type 0) → ((n : ℕ) → P n ⊎ (P n → ⊥)) → (n : ℕ)
    → ((m : ℕ) × (m < n) × IsLeast P m) ⊎ ((m : ℕ) → m < n → P m → ⊥)
below P decided zero = inr (λ m less held. absurd (omega arith))
below P decided (suc n) = elim (below P decided n) [
  | inl found ↦ inl (found.0, omega (arith, found.1), found.2)
  | inr none ↦ elim (decided n) [
    | inl held ↦
        inl (
          n,
          omega arith,
          record {
            meets = held;
            least = λ less here.
                elim (cases_lt less n) [ inl under ↦ absurd (none less under here) | inr le ↦ le ];
          },
        )
    | inr not ↦
        inr (λ m less held.
        elim (cases_lt m n) [
          | inl under ↦ none m under held
          | inr le ↦ (let same : m ≡ n = omega arith in absurd (not (subst P same held)))
        ])
  ]
]

pub least-of : (P : ℕ → Type 0) → ((n : ℕ) → P n ⊎ (P n → ⊥)) → (n : ℕ) → P n
    → (m : ℕ) × (m ≤ n) × IsLeast P m
least-of P decided n held = elim (below P decided (suc n)) [
  | inl found ↦ (found.0, omega (arith, found.1), found.2)
  | inr none ↦ absurd (none n (omega arith) held)
]
