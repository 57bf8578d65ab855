use Rattle.hls_view_jobs.specs.Inside.Running.{IsLeastSoFar}
use Rattle.hls_view_jobs.proofs.numbers.least.Given as goal

abbrev pub invariant-loop-at : goal.invariant-loop-at
invariant-loop-at l = IsLeastSoFar l.numbers l.at l.least
