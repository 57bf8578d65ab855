use Rattle.hls_audit.proofs.IdleLaws.{IsCounted}
use Rattle.hls_audit.proofs.counts.idle_of.Given as goal

abbrev pub invariant-loop-run : goal.invariant-loop-run
invariant-loop-run l = IsCounted l.report l.run-index l.idle
