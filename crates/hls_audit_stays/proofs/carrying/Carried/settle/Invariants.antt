use Rattle.hls_audit_stays.proofs.CarryLaws.{HasSettled}
use Rattle.hls_audit_stays.proofs.carrying.Carried.settle.Given as goal

abbrev pub invariant-loop-at : goal.invariant-loop-at
invariant-loop-at l = HasSettled l.fn.self l.self l.at
