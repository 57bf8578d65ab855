use Rattle.hls_view_jobs.specs.Inside.Running.{IsGreatestSoFar}
use Rattle.hls_view_jobs.proofs.totals.greatest_bound.Given as goal

abbrev pub invariant-loop-at : goal.invariant-loop-at
invariant-loop-at l = IsGreatestSoFar l.jobs l.at l.greatest
