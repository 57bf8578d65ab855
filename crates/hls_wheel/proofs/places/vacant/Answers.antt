use Rattle.std.proofs.Common.{◌≡◌, None, arith, subst}
use Rattle.std.specs.Prelude.{replicate}
use Rattle.hls_wheel.proofs.places.vacant.Goals as goal

pub returns : goal.returns
returns c =
    let end : c.loop-place._place ≡ 1000 = omega (arith, c.loop-place-test.false, c.loop-place.auto._place-end) in
    subst (λ n. c.loop-place.owners.items ≡ replicate n None) end c.loop-place.invariant.vacant
