use Rattle.hls_legal_jobs.proofs.Legal.{jobs_in_run}
use Rattle.hls_legal_jobs.proofs.laws.jobs_of_legal_runs_are_in_time.Goals as goal

pub returns : goal.returns
returns c = jobs_in_run
