use Rattle.std.proofs.Common.{◌≡◌, take, map}
use Rattle.hls_view_jobs.specs.Summaries.{number}
use Rattle.hls_view_jobs.proofs.numbers.numbers.Given as goal

abbrev pub invariant-loop-job : goal.invariant-loop-job
invariant-loop-job l = l.all.items ≡ map (number l.which) (take l.job-index l.jobs)
