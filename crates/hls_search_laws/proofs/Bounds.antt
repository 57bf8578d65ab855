-- What a rate and an error give, goes on by conversions.
use Rattle.std.proofs.Common.{ℕ, ◌≤◌, ◌*◌, ◌-◌, false, arith}
use Rattle.hls_guarantee.specs.declared.Guarantee.{Guarantee}
use Rattle.hls_guarantee.specs.declared.Guarantee.TheVariants.{Resb, Resc, Psbe}
use Rattle.hls_guarantee.specs.declared.rule.RuleName.{RuleName}
use Rattle.hls_guarantee.specs.Limits.{IsValid}
use Rattle.hls_search_laws.proofs.Numbers.{covers-blocks, covers-times}
use Rattle.hls_search_laws.proofs.Quads.{Quad, IsQuad, quad, quad-ok, better-trans, covered-from, covered-less}
use Rattle.hls_search_laws.proofs.Quads.{better-windows, better-blocks, better-quotient}
use Rattle.hls_search_laws.proofs.Ways.{Way}
use Rattle.hls_search_laws.proofs.Ways.Way.{r1c, r1b, r1p, r3, r4, r5, r6c, r6b, r7, r9, r10, r11}
use Rattle.hls_search_laws.proofs.Closed.{Gives, Least, Closed, least-some}
use Rattle.hls_search_laws.proofs.Closed.Gives.{share, windows, blocks}
use Rattle.hls_search_laws.proofs.Closed.Closed.{bound, null}

pub bound-step : {n j : ℕ} {rule : RuleName} {g m h : Guarantee} → IsValid g → IsValid m → IsValid h
    → Least g j → j ≤ n → Gives (quad g) m → Way rule m h → Closed n g h
bound-step vg vm vh least le (share {s = s} {d = d} t) (r1p rate delay) =
    bound least le (share (better-trans (quad-ok (Psbe s d) vm) t (record { rate = rate; delay = delay })))
bound-step vg vm vh least le (share {s = s} {d = d} t) (r6c {e = e} {f = f} under) =
    bound least le (windows (covered-from e f (quad-ok (Psbe s d) vm) t under))
bound-step vg vm vh least le (share {s = s} {d = d} t) (r6b {e = e} {f = f} under) =
    bound least le (blocks (covered-from e f (quad-ok (Psbe s d) vm) t under))
bound-step vg vm vh least le (share t) r9 = null (omega (arith, least-some least))
bound-step {g = g} vg vm vh least le (windows {x = x} {y = y} u) (r1c {e = e} {f = f} lex ley) =
    bound least le (windows (covered-less (quad g) x y e f lex ley u))
bound-step {g = g} vg vm vh least le (windows {x = x} {y = y} u) (r5 {s = s} {d = d} rate error) =
    bound least le (share (better-trans (quad-ok (Resc false x y) vm)
    (better-windows (quad g) x y (quad-ok g vg) vm.fits u)
    (better-quotient s.num s.den d.num d.den x y (x * (y - x)) y rate error)))
bound-step vg vm vh least le (windows u) r7 = bound least le (blocks u)
bound-step vg vm vh least le (windows u) r9 = null (omega (arith, least-some least))
bound-step {g = g} vg vm vh least le (blocks {x = x} {y = y} u) (r1b {e = e} lex) =
    bound least le (blocks (covered-less (quad g) x y e y lex (omega arith) u))
bound-step {g = g} vg vm vh least le (blocks {x = x} {y = y} u) (r3 {e = e} {f = f} lex ley) =
    bound least le (windows (covered-less (quad g) x y e f lex (omega (arith, vm.fits)) u))
bound-step {g = g} vg vm vh least le (blocks {x = x} {y = y} u) (r4 {s = s} {d = d} rate error) =
    bound least le (share (better-trans (quad-ok (Resb false x y) vm)
    (better-blocks (quad g) x y (quad-ok g vg) vm.some vm.fits u)
    (better-quotient s.num s.den d.num d.den x y (x * (2 * (y - x))) y rate error)))
bound-step vg vm vh least le (blocks u) r9 = null (omega (arith, least-some least))
bound-step {g = g} vg vm vh least le (windows {x = x} {y = y} u) (r11 {e = e} {f = f} times some less far) =
    let k : Quad = quad g in
    bound least le (windows (covers-times k.a k.b k.p k.q x y times e f some less far u))
bound-step {g = g} vg vm vh least le (blocks {x = x} {y = y} u) (r10 {e = e} {f = f} less far) =
    let k : Quad = quad g in
    let ok : IsQuad k = quad-ok g vg in
    bound least le (windows (covers-blocks k.a k.b k.p k.q x y e f ok.fits vm.fits less (omega (arith, vm.fits)) u))
