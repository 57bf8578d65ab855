use Rattle.hls_audit.proofs.DueLaws.{AreUpTo}
use Rattle.hls_audit.proofs.dues.are_settled.Given as goal

abbrev pub invariant-loop-at : goal.invariant-loop-at
invariant-loop-at l = AreUpTo l.depth l.dues l.seats l.at
