use Rattle.hls_audit_clauses.proofs.Promised.{stays_promised}
use Rattle.hls_audit_clauses.proofs.laws.kept_reports_keep_their_stays.Goals as goal

pub returns : goal.returns
returns c = λ content is kept. stays_promised content is kept
