use Rattle.std.proofs.Common.{take}
use Rattle.hls_report_text.specs.Content.{content_of}
use Rattle.hls_view_jobs.specs.Jobs.{AreJobs}
use Rattle.hls_view_jobs.proofs.threads.jobs_on.Given as goal

abbrev pub invariant-loop-at : goal.invariant-loop-at
invariant-loop-at l = AreJobs (content_of l.report) l.name (take l.at l.releases.items) l.jobs.items
