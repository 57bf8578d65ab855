use Rattle.std.proofs.Common.{sym, ◌∙◌}
use Rattle.hls_legal.proofs.StayLaws.{closed-hit, closed-miss, closed-none}
use Rattle.hls_test_accounts.proofs.stays.closed.Goals as goal

pub returns-then-closes : goal.returns-then-closes
returns-then-closes c =
    sym (closed-hit c.args.answered.now c.loop-i.i c.index-answered-i.result c.args.name.now
    c.loop-i-test.true
    c.index-answered-i.is (sym c.closes.ensures ∙ c.if-closes.true))
    ∙ c.loop-i.invariant

pub loop-i-preserved : goal.loop-i-preserved
loop-i-preserved c =
    closed-miss c.args.answered.now c.loop-i.i c.index-answered-i.result c.args.name.now c.loop-i-test.true
    c.index-answered-i.is (sym c.closes.ensures ∙ c.if-closes.false)
    ∙ c.loop-i.invariant

pub returns : goal.returns
returns c = sym (closed-none c.args.answered.now c.loop-i.i c.args.name.now c.loop-i-test.false)
    ∙ c.loop-i.invariant
