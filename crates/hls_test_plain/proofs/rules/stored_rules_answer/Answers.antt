use Rattle.std.proofs.Common.{arith}
use Rattle.hls_rules.proofs.Eleven.{once}
use Rattle.hls_test_plain.proofs.rules.stored_rules_answer.Goals as goal

pub new-book-requires : goal.new-book-requires
new-book-requires g c =
    let last = c.loop-name.auto.name-index-end in
    let end = c.loop-name-test.false in
    once _ c.loop-name.name-index c.loop-name.invariant (omega (arith, last, end))
