use Rattle.hls_legal_jobs.proofs.Lasting.{jobs_of_stay}
use Rattle.hls_legal_jobs.proofs.laws.jobs_of_reports_are_in_time.Goals as goal

pub returns : goal.returns
returns c = jobs_of_stay
