use Rattle.hls_view_job_laws.proofs.Lacking.{asked_or_lacks}
use Rattle.hls_view_job_laws.proofs.laws.jobs_got_what_they_asked_for_or_lack_it.Goals as goal

pub returns : goal.returns
returns c = asked_or_lacks
