use Rattle.std.proofs.Common.{arith}
use Rattle.hls_rules.proofs.Eleven.{once}
use Rattle.hls_test_leaps.proofs.counts.run_with.Goals as goal

pub new-requires-3 : goal.new-requires-3
new-requires-3 g c =
    let last = c.loop-name.auto.name-index-end in
    let end = c.loop-name-test.false in
    once _ c.loop-name.name-index c.loop-name.invariant (omega (arith, last, end))
