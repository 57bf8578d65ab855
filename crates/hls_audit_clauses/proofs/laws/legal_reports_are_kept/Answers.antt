use Rattle.hls_audit_clauses.proofs.Kept.{report_kept}
use Rattle.hls_audit_clauses.proofs.laws.legal_reports_are_kept.Goals as goal

pub returns : goal.returns
returns c = λ s given boxes content is clause t. report_kept s given boxes content is clause t
