use Rattle.hls_view_job_laws.proofs.Windowed.{all_bounded}
use Rattle.hls_view_job_laws.proofs.laws.jobs_keep_their_bounds.Goals as goal

pub returns : goal.returns
returns c = all_bounded
