use Rattle.hls_view_jobs.specs.Inside.Running.{IsMostSoFar}
use Rattle.hls_view_jobs.proofs.numbers.most.Given as goal

abbrev pub invariant-loop-at : goal.invariant-loop-at
invariant-loop-at l = IsMostSoFar l.numbers l.at l.most
