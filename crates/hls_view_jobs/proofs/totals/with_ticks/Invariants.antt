use Rattle.std.proofs.Common.{◌≡◌, take, filter}
use Rattle.hls_view_jobs.specs.Summaries.{has_ticks}
use Rattle.hls_view_jobs.proofs.totals.with_ticks.Given as goal

abbrev pub invariant-loop-job : goal.invariant-loop-job
invariant-loop-job l = l.all.items ≡ filter has_ticks (take l.job-index l.jobs)
