use Rattle.hls_view_job_laws.proofs.Admitted.{life_admitted}
use Rattle.hls_view_job_laws.proofs.Woken.{as_many_jobs, each_wake, as_many_wakes, each_commanded, few_woken}
use Rattle.hls_view_job_laws.proofs.laws.lines_tell_whether_each_wake_releases_a_job.Goals as goal

pub returns-clause-releases : goal.returns-clause-releases
returns-clause-releases c = λ content life line is. (as_many_jobs content life line is, each_wake content life line is)

pub returns-clause-wakes : goal.returns-clause-wakes
returns-clause-wakes c = λ content life line formed listed is first_version. (
  as_many_wakes content life line (life_admitted content life formed listed) is first_version,
  each_commanded content life line (life_admitted content life formed listed) is first_version,
)

pub returns-clause-few : goal.returns-clause-few
returns-clause-few c = λ content life line formed listed is.
    few_woken content life line (life_admitted content life formed listed) is
