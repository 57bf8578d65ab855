use Rattle.hls_view_jobs.proofs.Orders.{open_last}
use Rattle.hls_view_jobs.proofs.laws.only_the_last_job_may_be_open.Goals as goal

pub returns : goal.returns
returns c = open_last
