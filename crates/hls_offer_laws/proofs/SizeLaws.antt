-- What a reservation gives, one of the sizes of its period gives as soon, and no size is greater.
use Rattle.std.proofs.Common.{◌≡◌, ℕ, ◌+◌, ◌*◌, ◌-◌, ◌≤◌, ◌⊎◌, inl, inr}
use Rattle.std.proofs.Common.{Bool, true, false, refl, sym, subst, ap, arith, mul-pos}
use Rattle.std.proofs.Math.Nat.{le_of_mul-le-mul_right, mul-le-mul_left, mul-le-mul_right}
use Rattle.std.proofs.lemmas.Bool.{cases_lt}
use Rattle.hls_frac.specs.declared.Frac.{Frac}
use Rattle.hls_frac.specs.Frac.{IsQuotient}
use Rattle.hls_guarantee.specs.declared.Guarantee.{Guarantee}
use Rattle.hls_guarantee.specs.declared.Guarantee.TheVariants.{All, Null, Resb, Resc, Psbe}
use Rattle.hls_guarantee.specs.Limits.{IsReservation, IsValid}
use Rattle.hls_search_laws.proofs.Quads.{IsBetter, quad}
use Rattle.hls_search_laws.proofs.Ways.Way.{r4}
use Rattle.hls_search_laws.proofs.Closed.{Closed}
use Rattle.hls_search_laws.proofs.Closed.Rates.{by4, by5}
use Rattle.hls_search_laws.proofs.Closed.Shape.{s1, s2h, s2s, s3, s4}
use Rattle.hls_search_laws.proofs.Closed.Least.{least-blocks}
use Rattle.hls_search_laws.proofs.Closed.Gives.{share, windows, blocks}
use Rattle.hls_search_laws.proofs.Closed.Closed.{bound, null, shape, same, rates}
use Rattle.hls_offer_laws.specs.Candidates.{IsLeast, Slides, Spreads, Provides, IsSize}
use Rattle.hls_offer_laws.proofs.Extremes.{least-of}

-- ---- the conditions can be told

le-told : (a b : ℕ) → (a ≤ b) ⊎ (a ≤ b → ⊥)
le-told a b = elim (cases_lt b a) [ inl under ↦ inr (λ le. absurd (omega arith)) | inr le ↦ inl le ]

both-told : {P Q : Type 0} → P ⊎ (P → ⊥) → Q ⊎ (Q → ⊥) → (P × Q) ⊎ (P × Q → ⊥)
both-told (inl p) (inl q) = inl (p, q)
both-told (inl p) (inr q) = inr (λ both. q both.1)
both-told (inr p) q = inr (λ both. p both.0)

same-told : (a b : ℕ) → (a ≡ b) ⊎ (a ≡ b → ⊥)
same-told a b = elim (both-told (le-told a b) (le-told b a)) [
  | inl both ↦ inl (omega (arith, both.0, both.1))
  | inr not ↦ inr (λ e. not (omega arith, omega arith))
]

slides-told : (ticks period y x : ℕ) → Slides ticks period x y ⊎ (Slides ticks period x y → ⊥)
slides-told ticks period y x = both-told (le-told ticks x) (le-told (2 * y + ticks) (2 * x + period))

spreads-told : (ticks period y x : ℕ) → Spreads ticks period x y ⊎ (Spreads ticks period x y → ⊥)
spreads-told ticks period y x = le-told (ticks * y + x * (2 * (y - x))) (x * period)

provides-told : (s d : Frac) (y x : ℕ) → Provides s d x y ⊎ (Provides s d x y → ⊥)
provides-told s d y x =
    both-told (le-told (s.num * y) (x * s.den)) (le-told (2 * (y - x) * s.num * d.den) (d.num * s.den))

-- ---- what they mean for a reservation by blocks

pub spreads-covers : (ticks period x y : ℕ) → Spreads ticks period x y
    → (ticks * y + x * (2 * (y - x))) * y ≤ x * period * y
spreads-covers ticks period x y under = mul-le-mul_right y under

pub covers-spreads : (ticks period x y : ℕ) → 1 ≤ y → (ticks * y + x * (2 * (y - x))) * y ≤ x * period * y
    → Spreads ticks period x y
covers-spreads ticks period x y pos under = le_of_mul-le-mul_right {k = y} under pos

pub spreads-some : (ticks period x y : ℕ) → 1 ≤ ticks → 1 ≤ y → Spreads ticks period x y → 1 ≤ x
spreads-some ticks period x y some pos under = elim (cases_lt x 1) [
  | inl none ↦
      let zero : x ≡ 0 = omega arith in
      let gone : x * period ≡ 0 * period = ap (λ v. v * period) zero in
      let owed : 1 ≤ ticks * y = mul-pos some pos in
      absurd (omega (arith, gone, owed, under))
  | inr le ↦ le
]

provides-delay : (x y e sn dn sd dd : ℕ) → 2 * e * sn * dd ≤ dn * sd
    → x * (2 * e) * sn * (dd * y) ≤ dn * x * (y * sd)
provides-delay x y e sn dn sd dd under = omega (arith, mul-le-mul_left (x * y) under)

delay-provides : (x y e sn dn sd dd : ℕ) → 1 ≤ x → 1 ≤ y → x * (2 * e) * sn * (dd * y) ≤ dn * x * (y * sd)
    → 2 * e * sn * dd ≤ dn * sd
delay-provides x y e sn dn sd dd some pos under =
    le_of_mul-le-mul_right {k = x * y} (omega (arith, under)) (mul-pos some pos)

pub provides-better : (s d : Frac) (hard : Bool) (x y : ℕ) → Provides s d x y
    → IsBetter (quad (Resb hard x y)) (quad (Psbe s d))
provides-better s d hard x y provides = record {
  rate = provides.0;
  delay = provides-delay x y (y - x) s.num d.num s.den d.den provides.1;
}

better-provides : (s d : Frac) (hard : Bool) (x y : ℕ) → 1 ≤ x → 1 ≤ y
    → IsBetter (quad (Resb hard x y)) (quad (Psbe s d)) → Provides s d x y
better-provides s d hard x y some pos better =
    (better.rate, delay-provides x y (y - x) s.num d.num s.den d.den some pos better.delay)

pub provides-some : (s d : Frac) (x y : ℕ) → 1 ≤ s.num → 1 ≤ y → Provides s d x y → 1 ≤ x
provides-some s d x y some pos provides = elim (cases_lt x 1) [
  | inl none ↦
      let zero : x ≡ 0 = omega arith in
      let gone : x * s.den ≡ 0 * s.den = ap (λ v. v * s.den) zero in
      let owed : 1 ≤ s.num * y = mul-pos some pos in
      absurd (omega (arith, gone, owed, provides.0))
  | inr le ↦ le
]

even-delay : (x y e sn dn sd dd : ℕ) → 1 ≤ y → sn * y ≡ x * sd → dn * y ≡ x * (2 * e) * dd
    → 2 * e * sn * dd ≤ dn * sd
even-delay x y e sn dn sd dd pos rate error =
    le_of_mul-le-mul_right {k = y}
    (omega (arith, ap (λ v. v * (2 * e * dd)) rate, ap (λ v. v * sd) error)) pos

-- the share of a reservation is provided by no smaller one
even-least : (s d : Frac) (x y : ℕ) → 1 ≤ y → IsQuotient s x y → IsQuotient d (x * (2 * (y - x))) y
    → IsLeast (λ size. Provides s d size y) x
even-least s d x y pos rate error = record {
  meets = (omega (arith, rate), even-delay x y (y - x) s.num d.num s.den d.den pos rate error);
  least = λ less provides.
      let over : x * s.den ≤ less * s.den = omega (arith, rate, provides.0) in
      le_of_mul-le-mul_right {k = s.den} over s.positive;
}

-- ---- the sizes

pub record Smaller (n : ℕ) (wanted : Guarantee) (x y : ℕ) : Type 0 where
  pub size : ℕ
  pub is : IsSize wanted size y
  pub no_more : size ≤ x
  pub some : 1 ≤ size
  pub closed : Closed n (Resb false size y) wanted

-- blocks of the same period
own-size : {n : ℕ} (ticks period x y : ℕ) → y ≡ period → 1 ≤ ticks → ticks ≤ x
    → Smaller n (Resb false ticks period) x y
own-size {n} ticks period x y e some le = record {
  size = ticks;
  is = inl (inl (e, refl));
  no_more = le;
  some = some;
  closed = subst (λ v. Closed n (Resb false ticks y) (Resb false ticks v)) e same;
}

-- windows, and blocks of another period
sliding : (ticks period x y : ℕ) → Slides ticks period x y
    → (size : ℕ) × (size ≤ x) × IsLeast (λ v. Slides ticks period v y) size
sliding ticks period x y held =
    least-of (λ v. Slides ticks period v y) (slides-told ticks period y) x held

spreading : (ticks period x y : ℕ) → Spreads ticks period x y
    → (size : ℕ) × (size ≤ x) × IsLeast (λ v. Spreads ticks period v y) size
spreading ticks period x y held =
    least-of (λ v. Spreads ticks period v y) (spreads-told ticks period y) x held

spread-less : (ticks period x y : ℕ) → 1 ≤ y → y ≡ period → Spreads ticks period x y → ticks ≤ x
spread-less ticks period x y pos e under =
    let over : ticks * y ≤ x * y = omega (arith, under, ap (λ v. x * v) e) in
    le_of_mul-le-mul_right {k = y} over pos

blocks-slide : {n : ℕ} (ticks period x y : ℕ) → 2 ≤ n → 1 ≤ ticks → Slides ticks period x y
    → Smaller n (Resb false ticks period) x y
blocks-slide ticks period x y two some held = elim (same-told y period) [
  | inl e ↦ own-size ticks period x y e some held.0
  | inr not ↦
      let least = sliding ticks period x y held in
      record {
        size = least.0;
        is = inl (inr (not, least.2));
        no_more = least.1;
        some = (let a = least.2.meets.0 in omega arith);
        closed = shape (s4 two least.2.meets.0 least.2.meets.1);
      }
]

blocks-spread : {n : ℕ} (ticks period x y : ℕ) → 2 ≤ n → 1 ≤ ticks → 1 ≤ y → Spreads ticks period x y
    → Smaller n (Resb false ticks period) x y
blocks-spread ticks period x y two some pos held = elim (same-told y period) [
  | inl e ↦ own-size ticks period x y e some (spread-less ticks period x y pos e held)
  | inr not ↦
      let least = spreading ticks period x y held in
      record {
        size = least.0;
        is = inr (not, least.2);
        no_more = least.1;
        some = spreads-some ticks period least.0 y some pos least.2.meets;
        closed = bound least-blocks two (blocks (spreads-covers ticks period least.0 y least.2.meets));
      }
]

blocks-size : {n : ℕ} {hard : Bool} (ticks period x y : ℕ) → IsReservation x y → 1 ≤ ticks
    → Closed n (Resb hard x y) (Resb false ticks period) → Smaller n (Resb false ticks period) x y
blocks-size ticks period x y size some same = own-size ticks period x y refl some (omega arith)
blocks-size ticks period x y size some (shape (s1 c)) = own-size ticks period x y refl some (omega arith)
blocks-size ticks period x y size some (shape (s2h c d)) = own-size ticks period x y refl some d
blocks-size ticks period x y size some (shape (s2s c d)) = own-size ticks period x y refl some d
blocks-size ticks period x y size some (shape (s4 c d k)) = blocks-slide ticks period x y c some (d, k)
blocks-size ticks period x y size some (rates le (by4 way)) = elim way [ ]
blocks-size ticks period x y size some (rates le (by5 way)) = elim way [ ]
blocks-size ticks period x y size some (bound least-blocks le (blocks u)) =
    let pos : 1 ≤ y = omega (arith, size.some, size.fits) in
    blocks-spread ticks period x y le some pos (covers-spreads ticks period x y pos u)

windows-size : {n : ℕ} {hard : Bool} (ticks period x y : ℕ) → IsReservation x y → 1 ≤ ticks
    → Closed n (Resb hard x y) (Resc false ticks period) → Smaller n (Resc false ticks period) x y
windows-size ticks period x y size some (shape (s3 c d k)) =
    let least = sliding ticks period x y (d, k) in
    record {
      size = least.0;
      is = inl least.2;
      no_more = least.1;
      some = (let a = least.2.meets.0 in omega arith);
      closed = shape (s3 c least.2.meets.0 least.2.meets.1);
    }
windows-size ticks period x y size some (rates le (by4 way)) = elim way [ ]
windows-size ticks period x y size some (rates le (by5 way)) = elim way [ ]
windows-size ticks period x y size some (bound least-blocks le (windows u)) =
    let pos : 1 ≤ y = omega (arith, size.some, size.fits) in
    let least = spreading ticks period x y (covers-spreads ticks period x y pos u) in
    record {
      size = least.0;
      is = inr least.2;
      no_more = least.1;
      some = spreads-some ticks period least.0 y some pos least.2.meets;
      closed = bound least-blocks le (windows (spreads-covers ticks period least.0 y least.2.meets));
    }

share-size : {n : ℕ} {hard : Bool} (s d : Frac) (x y : ℕ) → IsReservation x y → 1 ≤ s.num
    → Closed n (Resb hard x y) (Psbe s d) → Smaller n (Psbe s d) x y
share-size s d x y size some (shape v) = elim v [ ]
share-size s d x y size some (rates le (by4 (r4 rate error))) = record {
  size = x;
  is = inl (even-least s d x y (omega (arith, size.some, size.fits)) rate error);
  no_more = omega arith;
  some = size.some;
  closed = rates le (by4 (r4 rate error));
}
share-size s d x y size some (rates le (by5 way)) = elim way [ ]
share-size {hard = hard} s d x y size some (bound least-blocks le (share better)) =
    let pos : 1 ≤ y = omega (arith, size.some, size.fits) in
    let least = least-of (λ v. Provides s d v y) (provides-told s d y) x
    (better-provides s d hard x y size.some pos better) in
    record {
      size = least.0;
      is = inl least.2;
      no_more = least.1;
      some = provides-some s d least.0 y some pos least.2.meets;
      closed = bound least-blocks le (share (provides-better s d false least.0 y least.2.meets));
    }

hard-windows : {n : ℕ} {hard : Bool} (ticks period x y : ℕ) → Closed n (Resb hard x y) (Resc true ticks period) → ⊥
hard-windows ticks period x y (shape s) = elim s [ ]
hard-windows ticks period x y (rates le (by4 way)) = elim way [ ]
hard-windows ticks period x y (rates le (by5 way)) = elim way [ ]
hard-windows ticks period x y (bound least le gives) = elim gives [ ]

every : {n : ℕ} {hard : Bool} (x y : ℕ) → Closed n (Resb hard x y) All → ⊥
every x y (shape s) = elim s [ ]
every x y (rates le (by4 way)) = elim way [ ]
every x y (rates le (by5 way)) = elim way [ ]
every x y (bound least le gives) = elim gives [ ]

-- of all that is wanted but hard blocks
pub smaller : {n : ℕ} {hard : Bool} (x y : ℕ) (wanted : Guarantee) → IsReservation x y → IsValid wanted
    → ((ticks period : ℕ) → wanted ≡ Resb true ticks period → ⊥) → (wanted ≡ Null → ⊥)
    → Closed n (Resb hard x y) wanted → Smaller n wanted x y
smaller x y All size valid soft some c = absurd (every x y c)
smaller x y Null size valid soft some c = absurd (some refl)
smaller x y (Resb true ticks period) size valid soft some c = absurd (soft ticks period refl)
smaller x y (Resb false ticks period) size valid soft some c = blocks-size ticks period x y size valid.some c
smaller x y (Resc true ticks period) size valid soft some c = absurd (hard-windows ticks period x y c)
smaller x y (Resc false ticks period) size valid soft some c = windows-size ticks period x y size valid.some c
smaller x y (Psbe s d) size valid soft some c = share-size s d x y size valid.some c

no-size : ⊥ ⊎ ⊥ → ⊥
no-size (inl none) = none
no-size (inr none) = none

-- two conversions lead from each size to what is wanted
pub size-leads : (n x y : ℕ) (wanted : Guarantee) → 2 ≤ n → IsReservation x y → IsSize wanted x y
    → Closed n (Resb false x y) wanted
size-leads n x y All two size is = absurd (no-size is)
size-leads n x y Null two size is = null (omega arith)
size-leads n x y (Resb true ticks period) two size is = absurd (no-size is)
size-leads n x y (Resb false ticks period) two size (inl (inl own)) =
    subst (λ v. Closed n (Resb false v y) (Resb false ticks period)) (sym own.1)
    (subst (λ v. Closed n (Resb false ticks y) (Resb false ticks v)) own.0 same)
size-leads n x y (Resb false ticks period) two size (inl (inr least)) =
    shape (s4 two least.1.meets.0 least.1.meets.1)
size-leads n x y (Resb false ticks period) two size (inr least) =
    bound least-blocks two (blocks (spreads-covers ticks period x y least.1.meets))
size-leads n x y (Resc true ticks period) two size is = absurd (no-size is)
size-leads n x y (Resc false ticks period) two size (inl least) =
    shape (s3 (omega arith) least.meets.0 least.meets.1)
size-leads n x y (Resc false ticks period) two size (inr least) =
    bound least-blocks two (windows (spreads-covers ticks period x y least.meets))
size-leads n x y (Psbe s d) two size (inl is) =
    bound least-blocks two (share (provides-better s d false x y is.meets))
size-leads n x y (Psbe s d) two size (inr is) = absurd is
