use Rattle.hls_view_jobs.proofs.Orders.{jobs_apart}
use Rattle.hls_view_jobs.proofs.laws.jobs_have_no_tick_in_common.Goals as goal

pub returns : goal.returns
returns c = jobs_apart
