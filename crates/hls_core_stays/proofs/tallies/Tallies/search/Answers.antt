use Rattle.std.proofs.Common.{◌∙◌, sym, arith}
use Rattle.hls_core_stays.proofs.Opened.{none_more, none_at_all}
use Rattle.hls_core_stays.proofs.tallies.Tallies.search.Goals as goal

pub loop-at-preserved : goal.loop-at-preserved
loop-at-preserved c =
    none_more c.args.self.now.items c.args.id c.loop-at.at c.loop-at.invariant
    (sym c.is_open_at.ensures ∙ c.if-is_open_at.false)

pub returns-then-is_open_at : goal.returns-then-is_open_at
returns-then-is_open_at c = λ at on. sym c.is_open_at.ensures ∙ c.if-is_open_at.true

pub returns : goal.returns
returns c = none_at_all c.args.self.now.items c.args.id c.loop-at.at _
    (omega (arith, c.loop-at-test.false, c.len-at-end.ensures)) c.loop-at.invariant
