use Rattle.hls_view_job_laws.proofs.Living.{in_jobs, ready_ticks}
use Rattle.hls_view_job_laws.proofs.laws.jobs_have_the_ready_ticks.Goals as goal

pub returns-clause-each : goal.returns-clause-each
returns-clause-each c = λ content life jobs t formed has woken from to.
    in_jobs content life jobs formed has woken t from to

pub returns-clause-all : goal.returns-clause-all
returns-clause-all c = ready_ticks
