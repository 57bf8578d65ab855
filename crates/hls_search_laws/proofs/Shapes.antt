-- The arrows between shapes.
use Rattle.std.proofs.Common.{◌≡◌, ℕ, suc, ◌+◌, ◌*◌, ◌-◌, ◌≤◌, false, refl, inl, inr, ap, arith}
use Rattle.std.proofs.Math.Nat.{mul-le-mul, mul-le-mul_left, mul-le-mul_right}
use Rattle.std.proofs.lemmas.Bool.{cases_lt}
use Rattle.hls_guarantee.specs.declared.Guarantee.{Guarantee}
use Rattle.hls_guarantee.specs.declared.Guarantee.TheVariants.{Resb, Resc}
use Rattle.hls_guarantee.specs.declared.rule.RuleName.{RuleName}
use Rattle.hls_guarantee.specs.Limits.{IsValid}
use Rattle.hls_search_laws.proofs.Numbers.{blocks-times, times-blocks, cross-blocks, cross-times, rest-times}
use Rattle.hls_search_laws.proofs.Quads.{IsBetter, quad, quad-ok, better-refl, better-trans}
use Rattle.hls_search_laws.proofs.Quads.{better-reservation, better-quotient}
use Rattle.hls_search_laws.proofs.Ways.{Way}
use Rattle.hls_search_laws.proofs.Ways.Way.{r1c, r1b, r1p, r2b, r2c, r3, r4, r5, r6c, r6b, r7, r8c, r8b, r8p, r9}
use Rattle.hls_search_laws.proofs.Ways.Way.{r10, r11}
use Rattle.hls_search_laws.proofs.Closed.{Least, Closed, Shape}
use Rattle.hls_search_laws.proofs.Closed.Shape.{s1, s2h, s2s, s3, s4, c1, c3, c4, c5}
use Rattle.hls_search_laws.proofs.Closed.Least.{least-blocks, least-windows}
use Rattle.hls_search_laws.proofs.Closed.Gives.{share, windows}
use Rattle.hls_search_laws.proofs.Closed.Closed.{bound, null, shape}

pub shape-some : {n : ℕ} {g h : Guarantee} → Shape n g h → 1 ≤ n
shape-some (s1 c) = omega arith
shape-some (s2h c d) = omega arith
shape-some (s2s c d) = omega arith
shape-some (s3 c d e) = omega arith
shape-some (s4 c d e) = omega arith
shape-some (c1 c) = omega arith
shape-some (c3 c) = omega arith
shape-some (c4 k c d e f) = omega arith
shape-some (c5 k c d e f) = omega arith

pub shape-least : {n : ℕ} {g h : Guarantee} → Shape n g h → Least g 2
shape-least (s1 c) = least-blocks
shape-least (s2h c d) = least-blocks
shape-least (s2s c d) = least-blocks
shape-least (s3 c d e) = least-blocks
shape-least (s4 c d e) = least-blocks
shape-least (c1 c) = least-windows
shape-least (c3 c) = least-windows
shape-least (c4 k c d e f) = least-windows
shape-least (c5 k c d e f) = least-windows

cross : (x y e f : ℕ) → e ≤ x → y ≤ f → e * y ≤ x * f
cross x y e f lex ley = mul-le-mul lex ley

pub shape-better : {n : ℕ} {g h : Guarantee} → IsValid g → IsValid h → Shape n g h → IsBetter (quad g) (quad h)
shape-better vg vh (s1 c) = better-refl _
shape-better vg vh (s2h {x = x} {y = y} {e = e} c d) = better-reservation x y (2 * (y - x)) e y (2 * (y - e))
    (cross x y e y d (omega arith)) (omega (arith, vg.fits))
shape-better vg vh (s2s {x = x} {y = y} {e = e} c d) = better-reservation x y (2 * (y - x)) e y (2 * (y - e))
    (cross x y e y d (omega arith)) (omega (arith, vg.fits))
shape-better vg vh (s3 {x = x} {y = y} {e = e} {f = f} c d k) =
    better-reservation x y (2 * (y - x)) e f (f - e) (cross-blocks x y e f vg.fits d k) (omega (arith, vg.fits))
shape-better vg vh (s4 {x = x} {y = y} {e = e} {f = f} c d k) =
    better-reservation x y (2 * (y - x)) e f (2 * (f - e)) (cross-blocks x y e f vg.fits d k)
    (omega (arith, vg.fits))
shape-better vg vh (c1 {x = x} {y = y} c) = better-reservation x y (y - x) x y (2 * (y - x)) (omega arith)
    (omega arith)
shape-better vg vh (c3 {x = x} {y = y} c) = better-reservation x y (y - x) x y (2 * (y - x)) (omega arith)
    (omega arith)
shape-better vg vh (c4 {x = x} {y = y} {e = e} {f = f} k c d i j) =
    better-reservation x y (y - x) e f (f - e) (cross-times x y k e f i j) (rest-times x y k e f vg.fits d i j)
shape-better vg vh (c5 {x = x} {y = y} {e = e} {f = f} k c d i j) =
    better-reservation x y (y - x) e f (2 * (f - e)) (cross-times x y k e f i j)
    (omega (arith, rest-times x y k e f vg.fits d i j))

-- blocks of windows, made windows again: a share reaches as far, in two conversions
windows-again : {n : ℕ} {g : Guarantee} (x y u v k e f : ℕ) → Least g 2 → quad g ≡ quad (Resc false x y) → 2 ≤ n → x ≤ y
    → 1 ≤ k → u ≤ k * x → k * y ≤ v → e ≤ u → 2 * (v - u) + e ≤ f → Closed n g (Resc false e f)
windows-again x y u v k e f least same two fits some i j less far =
    let under : e * y + x * (y - x) ≤ x * f = times-blocks x y u v k e f fits some i j less far in
    bound least two (windows (rw same (omega (arith, mul-le-mul_right y under))))

-- windows of blocks, k times
blocks-often : {n : ℕ} {g : Guarantee} (x y u v k e f : ℕ) → Least g 2 → quad g ≡ quad (Resb false x y) → 2 ≤ n → x ≤ y
    → u ≤ x → 2 * (y - x) + u ≤ v → 2 ≤ k → e ≤ k * u → k * v ≤ f → Closed n g (Resc false e f)
blocks-often x y u v k e f least same two fits less far some i j =
    let under : e * y + 2 * (x * (y - x)) ≤ x * f = blocks-times x y u v k e f fits less far some i j in
    bound least two (windows (rw same (omega (arith, mul-le-mul_right y under))))

-- one conversion more
pub shape-step : {n : ℕ} {rule : RuleName} {g m h : Guarantee} → IsValid g → IsValid m → IsValid h → Shape n g m
    → Way rule m h → Closed (suc n) g h
shape-step vg vm vh s r9 = null (omega arith)
shape-step {m = m} vg vm vh s (r4 {x = x} {y = y} {s = u} {d = d} rate error) =
    bound (shape-least s) (omega (arith, shape-some s)) (share (better-trans (quad-ok m vm)
    (shape-better vg vm s) (better-quotient u.num u.den d.num d.den x y (x * (2 * (y - x))) y rate error)))
shape-step {m = m} vg vm vh s (r5 {x = x} {y = y} {s = u} {d = d} rate error) =
    bound (shape-least s) (omega (arith, shape-some s)) (share (better-trans (quad-ok m vm)
    (shape-better vg vm s) (better-quotient u.num u.den d.num d.den x y (x * (y - x)) y rate error)))
shape-step vg vm vh s (r1p i j) = elim s [ ]
shape-step vg vm vh s r2c = elim s [ ]
shape-step vg vm vh s (r6c i) = elim s [ ]
shape-step vg vm vh s (r6b i) = elim s [ ]
shape-step vg vm vh s r8c = elim s [ ]
shape-step vg vm vh s r8b = elim s [ ]
shape-step vg vm vh s r8p = elim s [ ]
shape-step vg vm vh (s1 c) (r1b d) = shape (s2h (omega arith) d)
shape-step vg vm vh (s1 c) (r3 d k) = shape (s3 (omega arith) d (omega arith))
shape-step vg vm vh (s2h c d) (r1b i) = shape (s2h (omega arith) (omega arith))
shape-step vg vm vh (s2h c d) (r3 i k) = shape (s3 (omega arith) (omega arith) (omega arith))
shape-step vg vm vh (s2s c d) (r1b i) = shape (s2s (omega arith) (omega arith))
shape-step vg vm vh (s2s c d) (r3 i k) = shape (s3 (omega arith) (omega arith) (omega arith))
shape-step vg vm vh (s3 c d k) (r1c i j) = shape (s3 (omega arith) (omega arith) (omega arith))
shape-step vg vm vh (s3 c d k) r7 = shape (s4 (omega arith) d k)
shape-step vg vm vh (s4 c d k) (r1b i) = shape (s4 (omega arith) (omega arith) (omega arith))
shape-step vg vm vh (s4 c d k) (r3 i j) =
    shape (s3 (omega arith) (omega arith) (omega (arith, vm.fits, vg.fits)))
shape-step vg vm vh (c1 c) r2b = shape (c5 1 (omega arith) (omega arith) (omega arith) (omega arith))
shape-step vg vm vh (c1 {x = x} {y = y} c) (r3 {e = e} {f = f} i j) =
    windows-again x y x y 1 e f least-windows refl (omega arith) vg.fits (omega arith) (omega arith) (omega arith) i
    (omega (arith, vg.fits))
shape-step vg vm vh (c3 c) (r1b i) = shape (c5 1 (omega arith) (omega arith) (omega arith) (omega arith))
shape-step vg vm vh (c3 {x = x} {y = y} c) (r3 {e = e} {f = f} i j) =
    windows-again x y x y 1 e f least-windows refl (omega arith) vg.fits (omega arith) (omega arith) (omega arith) i
    (omega (arith, vg.fits))
shape-step vg vm vh (c4 k c d a b) (r1c i j) = shape (c4 k (omega arith) d (omega arith) (omega arith))
shape-step vg vm vh (c4 k c d a b) r7 = shape (c5 k (omega arith) d a b)
shape-step vg vm vh (c5 k c d a b) (r1b i) = shape (c5 k (omega arith) d (omega arith) b)
shape-step vg vm vh (c5 {x = x} {y = y} {e = u} {f = v} k c d a b) (r3 {e = e} {f = f} i j) =
    windows-again x y u v k e f least-windows refl (omega arith) vg.fits d a b i (omega (arith, vm.fits))
shape-step vg vm vh (s1 c) (r10 d k) = shape (s3 (omega arith) d k)
shape-step vg vm vh (s2h c d) (r10 i k) = shape (s3 (omega arith) (omega arith) (omega arith))
shape-step vg vm vh (s2s c d) (r10 i k) = shape (s3 (omega arith) (omega arith) (omega arith))
shape-step vg vm vh (s3 {x = x} {y = y} {e = a} {f = b} c d k) (r11 {e = e} {f = f} m some i j) =
    elim (cases_lt m 2) [
      | inl low ↦
          let single : m ≡ 1 = omega arith in
          let i1 : e ≤ a = omega (arith, ap (λ v. v * a) single) in
          let j1 : b ≤ f = omega (arith, ap (λ v. v * b) single) in
          shape (s3 (omega arith) (omega arith) (omega arith))
      | inr high ↦
          blocks-often x y a b m e f least-blocks refl (omega arith) vg.fits d (omega (arith, vg.fits)) high i j
    ]
shape-step vg vm vh (s4 c d k) (r10 i j) =
    shape (s3 (omega arith) (omega arith) (omega (arith, vm.fits, vg.fits)))
shape-step vg vm vh (c1 {x = x} {y = y} c) (r10 {e = e} {f = f} i j) =
    windows-again x y x y 1 e f least-windows refl (omega arith) vg.fits (omega arith) (omega arith) (omega arith) i
    (omega (arith, vg.fits))
shape-step vg vm vh (c3 {x = x} {y = y} c) (r10 {e = e} {f = f} i j) =
    windows-again x y x y 1 e f least-windows refl (omega arith) vg.fits (omega arith) (omega arith) (omega arith) i
    (omega (arith, vg.fits))
shape-step vg vm vh (c4 k c d a b) (r11 m some i j) =
    shape (c4 (m * k) (omega arith) (mul-le-mul some d) (omega (arith, mul-le-mul_left m a))
    (omega (arith, mul-le-mul_left m b)))
shape-step vg vm vh (c5 {x = x} {y = y} {e = u} {f = v} k c d a b) (r10 {e = e} {f = f} i j) =
    windows-again x y u v k e f least-windows refl (omega arith) vg.fits d a b i (omega (arith, vm.fits))
