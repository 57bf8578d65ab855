use Rattle.std.proofs.Common.{◌+◌, subst, sym}
use Rattle.hls_view_jobs.specs.Summaries.{IsGreatestBound}
use Rattle.hls_view_jobs.proofs.RunningLaws.{bound_next}
use Rattle.hls_view_jobs.proofs.totals.greatest_bound.Goals as goal

pub loop-at-preserved : goal.loop-at-preserved
loop-at-preserved c =
    subst (IsGreatestBound c.args.jobs.now (c.loop-at.at + 1)) (sym c.greater.ensures)
    (bound_next c.args.jobs.now c.loop-at.at c.loop-at.greatest _ c.in-Some.bound c.loop-at-test.true c.in-Some.is
    c.loop-at.invariant)
