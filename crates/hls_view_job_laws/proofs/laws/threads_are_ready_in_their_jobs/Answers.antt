use Rattle.hls_view_job_laws.proofs.Readying.{all_ready}
use Rattle.hls_view_job_laws.proofs.laws.threads_are_ready_in_their_jobs.Goals as goal

pub returns : goal.returns
returns c = all_ready
