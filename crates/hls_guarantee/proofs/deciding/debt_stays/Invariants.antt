use Rattle.hls_guarantee.specs.Service.{schedule_of}
use Rattle.hls_guarantee.proofs.Debts.{Debt}
use Rattle.hls_guarantee.proofs.deciding.debt_stays.Given as goal

abbrev pub invariant-loop-served : goal.invariant-loop-served
invariant-loop-served l = Debt l.rate l.whole l.most (schedule_of l.list) l.served-index l.debt
