-- One of the words leads to all that the closed form says.
use Rattle.std.proofs.Common.{◌≡◌, ℕ, ◌+◌, ◌*◌, ◌-◌, ◌≤◌, Bool, false, List, [], ◌∷◌, length, refl, ap, subst}
use Rattle.std.proofs.Common.{lit<, arith}
use Rattle.std.specs.Prelude.{Some}
use Rattle.hls_frac.specs.declared.Frac.{Frac}
use Rattle.hls_guarantee.specs.declared.Guarantee.{Guarantee}
use Rattle.hls_guarantee.specs.declared.Guarantee.TheVariants.{Resb, Resc, Psbe}
use Rattle.hls_guarantee.specs.declared.rule.RuleName.{RuleName}
use Rattle.hls_guarantee.specs.declared.rule.RuleName.TheVariants.{R1, R2, R4, R5, R6, R7, R8, R9, R10, R11}
use Rattle.hls_guarantee.specs.Limits.{IsReservation, IsValid}
use Rattle.hls_guarantee.specs.Conversions.{Converts}
use Rattle.hls_derive.specs.declared.derivation.Step.{Step}
use Rattle.hls_derive.specs.Answers.{Answers}
use Rattle.hls_derive.specs.Derivation.{end_of}
use Rattle.hls_derive.specs.Derives.{FollowsBy}
use Rattle.hls_rules.proofs.BestOnes.{IsSingle, single-strongest}
use Rattle.hls_rules.proofs.Answering.{strongest-same, met-answers}
use Rattle.hls_search_laws.specs.Words.{asked_before, IsWord, IsFound}
use Rattle.hls_search_laws.proofs.Quads.{Quad, IsQuad, IsBetter, quad, quad-ok, better-trans, covered-from}
use Rattle.hls_search_laws.proofs.Quads.{quotient-better}
use Rattle.hls_search_laws.proofs.Ways.{Way, way-converts}
use Rattle.hls_search_laws.proofs.Ways.Way.{r1b, r1p, r2b, r4, r5, r6c, r6b, r7, r8c, r8b, r8p, r9, r10, r11}
use Rattle.hls_search_laws.proofs.Closed.{Gives, Least, Closed, Shape}
use Rattle.hls_search_laws.proofs.Closed.Rates.{by4, by5}
use Rattle.hls_search_laws.proofs.Closed.Shape.{s1, s2h, s2s, s3, s4, c1, c3, c4, c5}
use Rattle.hls_search_laws.proofs.Closed.Least.{least-all, least-blocks, least-windows, least-share}
use Rattle.hls_search_laws.proofs.Closed.Gives.{share, windows, blocks}
use Rattle.hls_search_laws.proofs.Closed.Closed.{bound, null, shape, same, rates}
use Rattle.hls_search_laws.proofs.Makes.{make-blocks, make-windows, narrow-valid}
use Rattle.hls_search_laws.proofs.Reached.{closed}

none : IsWord []
none = (0, lit< tt, refl)

w1 : IsWord (R1 ∷ [])
w1 = (1, lit< tt, refl)

w2 : IsWord (R2 ∷ [])
w2 = (2, lit< tt, refl)

w4 : IsWord (R4 ∷ [])
w4 = (3, lit< tt, refl)

w5 : IsWord (R5 ∷ [])
w5 = (4, lit< tt, refl)

w6 : IsWord (R6 ∷ [])
w6 = (5, lit< tt, refl)

w7 : IsWord (R7 ∷ [])
w7 = (6, lit< tt, refl)

w8 : IsWord (R8 ∷ [])
w8 = (7, lit< tt, refl)

w9 : IsWord (R9 ∷ [])
w9 = (8, lit< tt, refl)

w10 : IsWord (R10 ∷ [])
w10 = (9, lit< tt, refl)

w11 : IsWord (R11 ∷ [])
w11 = (10, lit< tt, refl)

w21 : IsWord (R2 ∷ (R1 ∷ []))
w21 = (11, lit< tt, refl)

w41 : IsWord (R4 ∷ (R1 ∷ []))
w41 = (12, lit< tt, refl)

w46 : IsWord (R4 ∷ (R6 ∷ []))
w46 = (13, lit< tt, refl)

w51 : IsWord (R5 ∷ (R1 ∷ []))
w51 = (14, lit< tt, refl)

w56 : IsWord (R5 ∷ (R6 ∷ []))
w56 = (15, lit< tt, refl)

w107 : IsWord (R10 ∷ (R7 ∷ []))
w107 = (16, lit< tt, refl)

w117 : IsWord (R11 ∷ (R7 ∷ []))
w117 = (17, lit< tt, refl)

-- a rule with one conclusion answers it, whatever is wanted
pub single-answers : (rule : RuleName) (g h wanted : Guarantee) → IsSingle rule → Converts rule g h
    → Answers rule g wanted (Some h)
single-answers rule g h wanted single c =
    let best = single-strongest rule g h single c in
    record {
      meets = λ d. ap (λ (v : Guarantee). Some v)
          (strongest-same rule g h wanted best (single-strongest rule g wanted single d));
      leads = λ not k other. ap (λ (v : Guarantee). Some v) (strongest-same rule g h k best other);
      lacks = λ not nothing. absurd (nothing h best);
    }

by-one : (n : ℕ) {rule : RuleName} {g w : Guarantee} → IsWord (rule ∷ []) → IsValid g → IsValid w → 1 ≤ n → Way rule g w
    → IsFound n g w
by-one n {rule} {g} {w} known vg vw le way = record {
  word = rule ∷ [];
  known = known;
  fits = le;
  walks = (w, met-answers rule g w (way-converts vg vw way), refl);
}

-- the first rule has one conclusion
by-two : (n : ℕ) {rule next : RuleName} {g m w : Guarantee} → IsWord (rule ∷ (next ∷ [])) → IsSingle rule
    → IsValid g → IsValid m → IsValid w → 2 ≤ n → Way rule g m → Way next m w → IsFound n g w
by-two n {rule} {next} {g} {m} {w} known single vg vm vw le first second = record {
  word = rule ∷ (next ∷ []);
  known = known;
  fits = le;
  walks = (
    m,
    single-answers rule g m (asked_before (next ∷ []) w) single (way-converts vg vm first),
    (w, met-answers next m w (way-converts vm vw second), refl),
  );
}

-- the first rule concludes the form of what is wanted
by-form : (n : ℕ) {rule : RuleName} {g : Guarantee} (x y : ℕ) → IsWord (rule ∷ (R7 ∷ [])) → IsValid g
    → IsReservation x y → 2 ≤ n → Way rule g (Resc false x y) → IsFound n g (Resb false x y)
by-form n {rule} {g} x y known vg vw le way =
    let last : Converts R7 (Resc false x y) (Resb false x y) = way-converts vw vw r7 in
    record {
      word = rule ∷ (R7 ∷ []);
      known = known;
      fits = le;
      walks = (
        Resc false x y,
        met-answers rule g (Resc false x y) (way-converts vg vw way),
        (Resb false x y, met-answers R7 (Resc false x y) (Resb false x y) last, refl),
      );
    }

found-shape : (n : ℕ) {g w : Guarantee} → IsValid g → IsValid w → Shape n g w → IsFound n g w
found-shape n vg vw (s1 c) = by-one n w2 vg vw c r2b
found-shape n vg vw (s2h c d) = by-two n w21 tt vg vg vw c r2b (r1b d)
found-shape n vg vw (s2s c d) = by-one n w1 vg vw c (r1b d)
found-shape n vg vw (s3 c d k) = by-one n w10 vg vw c (r10 d k)
found-shape n vg vw (s4 {e = e} {f = f} c d k) = by-form n e f w107 vg vw c (r10 d k)
found-shape n vg vw (c1 c) = by-one n w7 vg vw c r7
found-shape n vg vw (c3 c) = by-one n w7 vg vw c r7
found-shape n vg vw (c4 k c d i j) = by-one n w11 vg vw c (r11 k d i j)
found-shape n vg vw (c5 {e = e} {f = f} k c d i j) = by-form n e f w117 vg vw c (r11 k d i j)

-- a reservation as a share, and then what the share gives
by-share : (n : ℕ) {rule : RuleName} {g w : Guarantee} {s d : Frac} (k : Quad) → IsWord (rule ∷ (R1 ∷ []))
    → IsWord (rule ∷ (R6 ∷ [])) → IsSingle rule → IsValid g → IsValid (Psbe s d) → IsValid w → IsQuad k
    → 2 ≤ n → Way rule g (Psbe s d) → IsBetter (quad (Psbe s d)) k → Gives k w → IsFound n g w
by-share n k one six single vg vm vw ok le way even (share {s = t} {d = e} better) =
    let up : IsBetter _ (quad (Psbe t e)) = better-trans ok even better in
    by-two n one single vg vm vw le way (r1p up.rate up.delay)
by-share n k one six single vg vm vw ok le way even (windows {x = x} {y = y} under) =
    by-two n six single vg vm vw le way (r6c (covered-from x y ok even under))
by-share n k one six single vg vm vw ok le way even (blocks {x = x} {y = y} under) =
    by-two n six single vg vm vw le way (r6b (covered-from x y ok even under))

found-blocks : (n : ℕ) {hard : Bool} {w : Guarantee} (x y : ℕ) → IsReservation x y → IsValid w → 2 ≤ n
    → Gives (quad (Resb hard x y)) w → IsFound n (Resb hard x y) w
found-blocks n {hard} x y vg vw le gives =
    let m = make-blocks x y vg in
    let ok : IsValid (Psbe m.s m.d) = narrow-valid (Psbe m.s m.d) m.narrow in
    let even = quotient-better m.s.num m.s.den m.d.num m.d.den x y (x * (2 * (y - x))) y m.rate m.error in
    by-share n {rule = R4} {g = Resb hard x y} (quad (Resb hard x y)) w41 w46 tt vg ok vw
    (quad-ok (Resb hard x y) vg) le (r4 m.rate m.error) even gives

found-windows : (n : ℕ) {hard : Bool} {w : Guarantee} (x y : ℕ) → IsReservation x y → IsValid w → 2 ≤ n
    → Gives (quad (Resc hard x y)) w → IsFound n (Resc hard x y) w
found-windows n {hard} x y vg vw le gives =
    let m = make-windows x y vg in
    let ok : IsValid (Psbe m.s m.d) = narrow-valid (Psbe m.s m.d) m.narrow in
    let even = quotient-better m.s.num m.s.den m.d.num m.d.den x y (x * (y - x)) y m.rate m.error in
    by-share n {rule = R5} {g = Resc hard x y} (quad (Resc hard x y)) w51 w56 tt vg ok vw
    (quad-ok (Resc hard x y) vg) le (r5 m.rate m.error) even gives

found-bound : (n : ℕ) {k : ℕ} {g w : Guarantee} → IsValid g → IsValid w → Least g k → k ≤ n
    → Gives (quad g) w → IsFound n g w
found-bound n vg vw least-all le (share t) = by-one n w8 vg vw le r8p
found-bound n vg vw least-all le (windows u) = by-one n w8 vg vw le r8c
found-bound n vg vw least-all le (blocks u) = by-one n w8 vg vw le r8b
found-bound n vg vw least-share le (share t) = by-one n w1 vg vw le (r1p t.rate t.delay)
found-bound n vg vw least-share le (windows u) = by-one n w6 vg vw le (r6c u)
found-bound n vg vw least-share le (blocks u) = by-one n w6 vg vw le (r6b u)
found-bound n vg vw (least-blocks {x = x} {y = y}) le gives = found-blocks n x y vg vw le gives
found-bound n vg vw (least-windows {x = x} {y = y}) le gives = found-windows n x y vg vw le gives

pub found-closed : (n : ℕ) {g w : Guarantee} → IsValid g → IsValid w → Closed n g w → IsFound n g w
found-closed n vg vw same = record { word = []; known = none; fits = omega arith; walks = refl }
found-closed n vg vw (null le) = by-one n w9 vg vw le r9
found-closed n vg vw (shape s) = found-shape n vg vw s
found-closed n vg vw (rates le (by4 way)) = by-one n w4 vg vw le way
found-closed n vg vw (rates le (by5 way)) = by-one n w5 vg vw le way
found-closed n vg vw (bound least le gives) = found-bound n vg vw least le gives

-- what a chain reaches, one of the words reaches in no more steps
pub found-chain : (g : Guarantee) (steps : List Step) → IsValid g → IsValid (end_of g steps)
    → FollowsBy g steps → IsFound (length steps) g (end_of g steps)
found-chain g steps vg vw follow =
    let e : 0 + length steps ≡ length steps = omega arith in
    subst (λ n. IsFound n g (end_of g steps)) e
    (found-closed (0 + length steps) vg vw (closed g steps vg follow))
