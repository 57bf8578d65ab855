use Rattle.hls_view_jobs.proofs.Promised.{job_within}
use Rattle.hls_view_jobs.proofs.laws.jobs_are_within_their_bounds.Goals as goal

pub returns : goal.returns
returns c = job_within
