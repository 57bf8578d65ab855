use Rattle.hls_guarantee.specs.Service.{schedule_of}
use Rattle.hls_guarantee.proofs.Excesses.{Excess}
use Rattle.hls_guarantee.proofs.capping.excess_stays.Given as goal

abbrev pub invariant-loop-served : goal.invariant-loop-served
invariant-loop-served l = Excess l.rate l.whole l.most (schedule_of l.list) l.served-index l.excess
