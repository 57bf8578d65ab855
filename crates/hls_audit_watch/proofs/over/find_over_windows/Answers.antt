use Rattle.std.proofs.Common.{arith}
use Rattle.hls_audit_watch.proofs.Overs.{slid_none, slid_more, windows_found, windows_nowhere}
use Rattle.hls_audit_watch.proofs.over.find_over_windows.Goals as goal

pub loop-at-init : goal.loop-at-init
loop-at-init c = slid_none c.args.x c.args.y c.args.served.now

pub loop-at-preserved : goal.loop-at-preserved
loop-at-preserved c =
    slid_more c.args.x c.args.y c.loop-at.at c.loop-at.got c.slide-got.result c.args.served.now c.loop-at.invariant
    c.slide-got.ensures (omega (arith, c.if-x-got.false))

pub returns-then-x-got : goal.returns-then-x-got
returns-then-x-got c =
    windows_found c.args.x c.args.y c.loop-at.at c.loop-at.got c.slide-got.result c.args.served.now c.loop-at.invariant
    c.slide-got.ensures c.if-x-got.true

pub returns : goal.returns
returns c =
    windows_nowhere c.args.x c.args.y c.loop-at.at c.loop-at.got c.args.served.now c.loop-at.invariant
    (omega (arith, c.loop-at-test.false))
