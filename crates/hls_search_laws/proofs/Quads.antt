-- The rate and the error of a guarantee, as numbers that need not be in lowest terms.
use Rattle.std.proofs.Common.{◌≡◌, ℕ, ◌+◌, ◌*◌, ◌-◌, ◌≤◌, arith, mul-pos}
use Rattle.std.proofs.Math.Nat.{mul-le-mul}
use Rattle.hls_guarantee.specs.declared.Guarantee.{Guarantee}
use Rattle.hls_guarantee.specs.declared.Guarantee.TheVariants.{All, Null, Resb, Resc, Psbe}
use Rattle.hls_guarantee.specs.Limits.{IsValid}
use Rattle.hls_search_laws.proofs.Numbers.{fraction-trans, delay-trans, covers-from, covers-less, covered-rate}
use Rattle.hls_search_laws.proofs.Numbers.{covered-delay, same-delay, reservations-delay, scaled-delay}

-- the rate a / b with the error p / q
pub record Quad : Type 0 where
  pub a : ℕ
  pub b : ℕ
  pub p : ℕ
  pub q : ℕ

pub record IsQuad (k : Quad) : Type 0 where
  pub some : 1 ≤ k.a
  pub fits : k.a ≤ k.b
  pub under : 1 ≤ k.q

abbrev pub quad_of : (a b p q : ℕ) → Quad
quad_of a b p q = record { a = a; b = b; p = p; q = q }

-- the last row is not used
abbrev pub quad : Guarantee → Quad
quad All = quad_of 1 1 0 1
quad (Resb hard x y) = quad_of x y (x * (2 * (y - x))) y
quad (Resc hard x y) = quad_of x y (x * (y - x)) y
quad (Psbe s d) = quad_of s.num s.den d.num d.den
quad Null = quad_of 1 1 0 1

-- k has the higher rate and starts no later, as by R1
pub record IsBetter (k h : Quad) : Type 0 where
  pub rate : h.a * k.b ≤ k.a * h.b
  pub delay : k.p * h.a * (h.q * k.b) ≤ h.p * k.a * (k.q * h.b)

-- k covers x of y ticks, as by R6
abbrev pub IsCovered : Quad → (x y : ℕ) → Type 0
IsCovered k x y = (x * k.q + k.p) * k.b ≤ k.a * y * k.q

pub quad-ok : (g : Guarantee) → IsValid g → IsQuad (quad g)
quad-ok All v = record { some = omega arith; fits = omega arith; under = omega arith }
quad-ok Null v = record { some = omega arith; fits = omega arith; under = omega arith }
quad-ok (Resb hard x y) v = record { some = v.some; fits = v.fits; under = omega (arith, v.some, v.fits) }
quad-ok (Resc hard x y) v = record { some = v.some; fits = v.fits; under = omega (arith, v.some, v.fits) }
quad-ok (Psbe s d) v = record { some = v.some; fits = v.fits; under = d.positive }

pub better-refl : (k : Quad) → IsBetter k k
better-refl k = record { rate = omega arith; delay = omega arith }

pub better-trans : {k h j : Quad} → IsQuad h → IsBetter k h → IsBetter h j → IsBetter k j
better-trans {k} {h} {j} ok le1 le2 = record {
  rate = omega (
    arith,
    fraction-trans j.a j.b h.a h.b k.a k.b (omega (arith, ok.some, ok.fits)) le2.rate
        le1.rate,
  );
  delay = delay-trans k.a k.b k.p k.q h.a h.b h.p h.q j.a j.b j.p j.q ok.some ok.under le1.delay le2.delay;
}

pub covered-from : {k h : Quad} (x y : ℕ) → IsQuad h → IsBetter k h → IsCovered h x y → IsCovered k x y
covered-from {k} {h} x y ok le under =
    covers-from k.a k.b k.p k.q h.a h.b h.p h.q x y ok.some ok.under le.rate le.delay under

pub covered-less : (k : Quad) (x y e f : ℕ) → e ≤ x → y ≤ f → IsCovered k x y → IsCovered k e f
covered-less k x y e f lex ley under = covers-less k.a k.b k.p k.q x y e f lex ley under

-- a reservation by windows that k covers
pub better-windows : (k : Quad) (x y : ℕ) → IsQuad k → x ≤ y → IsCovered k x y
    → IsBetter k (quad_of x y (x * (y - x)) y)
better-windows k x y ok fits under = record {
  rate = covered-rate k.a k.b k.p k.q x y ok.under under;
  delay = covered-delay k.a k.b k.p k.q x y ok.fits fits under;
}

-- two reservations
pub better-reservation : (x y d e f g : ℕ) → e * y ≤ x * f → d ≤ g
    → IsBetter (quad_of x y (x * d) y) (quad_of e f (e * g) f)
better-reservation x y d e f g rate delay = record {
  rate = rate;
  delay = reservations-delay x y d e f g delay;
}

-- a reservation by blocks that k covers
pub better-blocks : (k : Quad) (x y : ℕ) → IsQuad k → 1 ≤ x → x ≤ y → IsCovered k x y
    → IsBetter k (quad_of x y (x * (2 * (y - x))) y)
better-blocks k x y ok some fits under =
    let pos : 1 ≤ y = omega arith in
    let ok2 : IsQuad (quad_of x y (x * (y - x)) y) = record { some = some; fits = fits; under = pos } in
    let further : IsBetter (quad_of x y (x * (y - x)) y) (quad_of x y (x * (2 * (y - x))) y) =
    better-reservation x y (y - x) x y (2 * (y - x)) (omega arith) (omega arith) in
    better-trans ok2 (better-windows k x y ok fits under) further

-- everything is a part of every tick
pub better-all : (k : Quad) → IsQuad k → IsBetter (quad_of 1 1 0 1) k
better-all k ok = record { rate = omega (arith, ok.fits); delay = omega arith }

-- one rate and one error, written in two ways
pub quotient-better : (a b p q x y n z : ℕ) → a * y ≡ x * b → p * z ≡ n * q
    → IsBetter (quad_of a b p q) (quad_of x y n z)
quotient-better a b p q x y n z rate error = record {
  rate = omega arith;
  delay = omega (arith, same-delay a b p q x y n z rate error);
}

pub better-quotient : (a b p q x y n z : ℕ) → a * y ≡ x * b → p * z ≡ n * q
    → IsBetter (quad_of x y n z) (quad_of a b p q)
better-quotient a b p q x y n z rate error = record {
  rate = omega arith;
  delay = omega (arith, same-delay a b p q x y n z rate error);
}

-- a weight's part of a share
abbrev pub scaled : (k : Quad) (w t n : ℕ) → Quad
scaled k w t n = quad_of (k.a * w) (k.b * t) (w * k.p + n * k.q) (t * k.q)

pub better-scaled : (k h : Quad) (w t n : ℕ) → IsBetter k h → IsBetter (scaled k w t n) (scaled h w t n)
better-scaled k h w t n le = record {
  rate = let up : h.a * k.b * (w * t) ≤ k.a * h.b * (w * t) = mul-le-mul le.rate (omega arith) in
      omega (arith, up);
  delay = scaled-delay k.a k.b k.p k.q h.a h.b h.p h.q w t n le.rate le.delay;
}

pub scaled-ok : (k : Quad) (w t n : ℕ) → IsQuad k → 1 ≤ w → w ≤ t → IsQuad (scaled k w t n)
scaled-ok k w t n ok some fits = record {
  some = mul-pos ok.some some;
  fits = mul-le-mul ok.fits fits;
  under = mul-pos (let f : 1 ≤ t = omega arith in f) ok.under;
}
