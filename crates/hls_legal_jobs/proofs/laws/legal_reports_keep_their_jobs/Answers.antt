use Rattle.hls_legal_jobs.proofs.Kept.{jobs_kept}
use Rattle.hls_legal_jobs.proofs.laws.legal_reports_keep_their_jobs.Goals as goal

pub returns : goal.returns
returns c = jobs_kept
