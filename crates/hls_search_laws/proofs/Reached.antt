-- What chains reach is of the closed form.
use Rattle.std.proofs.Common.{◌≡◌, ℕ, suc, ◌+◌, ◌*◌, ◌-◌, List, [], ◌∷◌, length, true, false, subst, arith}
use Rattle.hls_guarantee.specs.declared.Guarantee.{Guarantee}
use Rattle.hls_guarantee.specs.declared.rule.RuleName.{RuleName}
use Rattle.hls_guarantee.specs.Limits.{IsValid}
use Rattle.hls_derive.specs.declared.derivation.Step.{Step}
use Rattle.hls_derive.specs.Derivation.{end_of}
use Rattle.hls_derive.specs.Derives.{FollowsBy}
use Rattle.hls_search_laws.specs.Words.{Reaches, rules_of}
use Rattle.hls_search_laws.proofs.Quads.{quad, quad-ok, better-all, better-quotient}
use Rattle.hls_search_laws.proofs.Ways.{Way, converts-way}
use Rattle.hls_search_laws.proofs.Ways.Way.{r1c, r1b, r1p, r2b, r2c, r3, r4, r5, r6c, r6b, r7, r8c, r8b, r8p, r9}
use Rattle.hls_search_laws.proofs.Ways.Way.{r10, r11}
use Rattle.hls_search_laws.proofs.Chains.{steps-reach, as-long}
use Rattle.hls_search_laws.proofs.Closed.{Gives, Least, Closed, Rates}
use Rattle.hls_search_laws.proofs.Closed.Rates.{by4, by5}
use Rattle.hls_search_laws.proofs.Closed.Shape.{s1, s2s, s3, c1, c3, c4}
use Rattle.hls_search_laws.proofs.Closed.Least.{least-all, least-blocks, least-windows, least-share}
use Rattle.hls_search_laws.proofs.Closed.Gives.{share, windows, blocks}
use Rattle.hls_search_laws.proofs.Closed.Closed.{bound, null, shape, same, rates}
use Rattle.hls_search_laws.proofs.Bounds.{bound-step}
use Rattle.hls_search_laws.proofs.Shapes.{shape-step}

pub rates-gives : {g h : Guarantee} → Rates g h → Gives (quad g) h
rates-gives (by4 (r4 {x = x} {y = y} {s = s} {d = d} rate error)) =
    share (better-quotient s.num s.den d.num d.den x y (x * (2 * (y - x))) y rate error)
rates-gives (by5 (r5 {x = x} {y = y} {s = s} {d = d} rate error)) =
    share (better-quotient s.num s.den d.num d.den x y (x * (y - x)) y rate error)

rates-least : {g h : Guarantee} → Rates g h → Least g 2
rates-least (by4 (r4 rate error)) = least-blocks
rates-least (by5 (r5 rate error)) = least-windows

first-step : {n : ℕ} {rule : RuleName} {g h : Guarantee} → IsValid g → IsValid h → Way rule g h
    → Closed (suc n) g h
first-step vg vh (r1c i j) = shape (c4 1 (omega arith) (omega arith) (omega arith) (omega arith))
first-step vg vh (r1b i) = shape (s2s (omega arith) i)
first-step vg vh (r1p rate delay) =
    bound least-share (omega arith) (share (record { rate = rate; delay = delay }))
first-step vg vh r2b = shape (s1 (omega arith))
first-step vg vh r2c = shape (c4 1 (omega arith) (omega arith) (omega arith) (omega arith))
first-step vg vh (r3 i j) = shape (s3 (omega arith) i (omega arith))
first-step vg vh (r4 rate error) = rates (omega arith) (by4 (r4 rate error))
first-step vg vh (r5 rate error) = rates (omega arith) (by5 (r5 rate error))
first-step vg vh (r6c u) = bound least-share (omega arith) (windows u)
first-step vg vh (r6b u) = bound least-share (omega arith) (blocks u)
first-step vg vh (r7 {hard = true}) = shape (c1 (omega arith))
first-step vg vh (r7 {hard = false}) = shape (c3 (omega arith))
first-step vg vh (r8c {e = e} {f = f}) = bound least-all (omega arith) (windows (omega (arith, vh.fits)))
first-step vg vh (r8b {e = e} {f = f}) = bound least-all (omega arith) (blocks (omega (arith, vh.fits)))
first-step {h = h} vg vh r8p = bound least-all (omega arith) (share (better-all (quad h) (quad-ok h vh)))
first-step vg vh r9 = null (omega arith)
first-step vg vh (r10 less far) = shape (s3 (omega arith) less far)
first-step vg vh (r11 k some less far) = shape (c4 k (omega arith) some less far)

-- one conversion more
closed-step : {n : ℕ} {rule : RuleName} {g m h : Guarantee} → IsValid g → IsValid m → IsValid h
    → Closed n g m → Way rule m h → Closed (suc n) g h
closed-step vg vm vh same by = first-step vg vh by
closed-step vg vm vh (null le) r9 = null (omega arith)
closed-step vg vm vh (shape s) by = shape-step vg vm vh s by
closed-step vg vm vh (rates le e) by =
    bound-step vg vm vh (rates-least e) (omega arith) (rates-gives e) by
closed-step vg vm vh (bound least le t) by = bound-step vg vm vh least (omega arith) t by

-- conversions go on from what is of the closed form
closed-on : (n : ℕ) (chain : List RuleName) (g m h : Guarantee) → IsValid g → Closed n g m → Reaches chain m h
    → Closed (n + length chain) g h
closed-on n [] g m h vg c r =
    let e : n ≡ n + length {A = RuleName} [] = omega arith in
    subst (λ v. Closed (n + length {A = RuleName} []) g v) r (subst (λ v. Closed v g m) e c)
closed-on n (rule ∷ rest) g m h vg c r =
    let first = r.1 in
    let next : Closed (suc n) g r.0 = closed-step vg first.from first.to c (converts-way rule m r.0 first) in
    let e : suc n + length rest ≡ n + length (rule ∷ rest) = omega arith in
    subst (λ v. Closed v g h) e (closed-on (suc n) rest g r.0 h vg next r.2)

pub closed-along : (n : ℕ) (g m : Guarantee) (steps : List Step) → IsValid g → Closed n g m
    → FollowsBy m steps → Closed (n + length steps) g (end_of m steps)
closed-along n g m steps vg c follow =
    subst (λ v. Closed (n + v) g (end_of m steps)) (as-long steps)
    (closed-on n (rules_of steps) g m (end_of m steps) vg c (steps-reach m steps follow))

pub closed : (g : Guarantee) (steps : List Step) → IsValid g → FollowsBy g steps
    → Closed (0 + length steps) g (end_of g steps)
closed g steps vg follow = closed-along 0 g g steps vg same follow

-- conversions begin at what is valid
pub reach-closed : (chain : List RuleName) (g h : Guarantee) → Reaches chain g h → Closed (0 + length chain) g h
reach-closed [] g h r = subst (λ v. Closed (0 + length {A = RuleName} []) g v) r same
reach-closed (rule ∷ rest) g h r = closed-on 0 (rule ∷ rest) g g h r.1.from same r
