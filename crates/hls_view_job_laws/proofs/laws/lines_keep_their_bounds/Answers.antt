use Rattle.hls_view_job_laws.proofs.Lined.{lines_in_bound}
use Rattle.hls_view_job_laws.proofs.laws.lines_keep_their_bounds.Goals as goal

pub returns : goal.returns
returns c = lines_in_bound
