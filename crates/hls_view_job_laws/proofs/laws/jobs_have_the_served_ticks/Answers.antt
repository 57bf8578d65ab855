use Rattle.hls_view_job_laws.proofs.Living.{served_ticks}
use Rattle.hls_view_job_laws.proofs.laws.jobs_have_the_served_ticks.Goals as goal

pub returns : goal.returns
returns c = λ content life jobs formed met has woken. served_ticks content life jobs formed has woken met
