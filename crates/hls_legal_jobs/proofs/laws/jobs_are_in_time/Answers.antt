use Rattle.hls_legal_jobs.proofs.InTime.{jobs_in_book}
use Rattle.hls_legal_jobs.proofs.laws.jobs_are_in_time.Goals as goal

pub returns : goal.returns
returns c = jobs_in_book
