use Rattle.std.proofs.Common.{◌≡◌, ◌++◌, drop}
use Rattle.hls_view_jobs.specs.Summaries.{gaps_behind}
use Rattle.hls_view_jobs.proofs.numbers.gaps_behind.Given as goal

abbrev pub invariant-loop-job : goal.invariant-loop-job
invariant-loop-job l = gaps_behind l.tick l.jobs ≡ l.all.items ++ gaps_behind l.last (drop l.job-index l.jobs)
