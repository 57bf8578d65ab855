use Rattle.std.proofs.Common.{◌≡◌, take, filter}
use Rattle.hls_view_jobs.specs.Summaries.{of_fate}
use Rattle.hls_view_jobs.proofs.totals.chosen.Given as goal

abbrev pub invariant-loop-job : goal.invariant-loop-job
invariant-loop-job l = l.all.items ≡ filter (of_fate l.which) (take l.job-index l.jobs)
