use Rattle.hls_view_jobs.specs.Inside.Running.{IsLongestSoFar}
use Rattle.hls_view_jobs.proofs.totals.longest.Given as goal

abbrev pub invariant-loop-at : goal.invariant-loop-at
invariant-loop-at l = IsLongestSoFar l.jobs l.at l.longest
