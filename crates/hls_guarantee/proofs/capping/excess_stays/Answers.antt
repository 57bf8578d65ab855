use Rattle.std.proofs.Common.{◌≡◌, false, true}
use Rattle.hls_guarantee.specs.Service.{schedule_of}
use Rattle.hls_guarantee.proofs.Excesses.{no_excess, next_excess, over_excess}
use Rattle.hls_guarantee.proofs.capping.excess_stays.Goals as goal

pub loop-served-init : goal.loop-served-init
loop-served-init c = no_excess c.args.rate c.args.whole c.args.most (schedule_of c.args.list.now)

pub returns-then-most-excess : goal.returns-then-most-excess
returns-then-most-excess c = (
  λ no. absurd (let e : false ≡ true = no in cc),
  λ each. absurd
      (over_excess c.args.rate c.args.whole c.args.most (schedule_of c.args.list.now) c.loop-served.served-index
      c.loop-served.excess c.excess_after-excess.result _ c.excess_after-excess.ensures c.if-most-excess.true
      c.loop-served-test.true c.loop-served.invariant each),
)

pub loop-served-preserved : goal.loop-served-preserved
loop-served-preserved c =
    next_excess c.args.rate c.args.whole c.args.most (schedule_of c.args.list.now) c.loop-served.served-index
    c.loop-served.excess c.excess_after-excess.result c.excess_after-excess.ensures c.if-most-excess.false
    c.loop-served.invariant
