use Rattle.std.proofs.Common.{◌≡◌, false, true}
use Rattle.hls_guarantee.specs.Service.{schedule_of}
use Rattle.hls_guarantee.proofs.Debts.{no_debt, next_debt, over_debt}
use Rattle.hls_guarantee.proofs.deciding.debt_stays.Goals as goal

pub loop-served-init : goal.loop-served-init
loop-served-init c = no_debt c.args.rate c.args.whole c.args.most (schedule_of c.args.list.now)

pub returns-then-most-debt : goal.returns-then-most-debt
returns-then-most-debt c = (
  λ no. absurd (let e : false ≡ true = no in cc),
  λ each. absurd
      (over_debt c.args.rate c.args.whole c.args.most (schedule_of c.args.list.now) c.loop-served.served-index
      c.loop-served.debt c.debt_after-debt.result _ c.debt_after-debt.ensures c.if-most-debt.true
      c.loop-served-test.true c.loop-served.invariant each),
)

pub loop-served-preserved : goal.loop-served-preserved
loop-served-preserved c =
    next_debt c.args.rate c.args.whole c.args.most (schedule_of c.args.list.now) c.loop-served.served-index
    c.loop-served.debt c.debt_after-debt.result c.debt_after-debt.ensures c.if-most-debt.false
    c.loop-served.invariant
