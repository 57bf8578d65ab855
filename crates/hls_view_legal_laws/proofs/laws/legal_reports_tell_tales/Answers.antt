use Rattle.hls_audit_clauses.proofs.Kept.{report_kept}
use Rattle.hls_view_legal_laws.proofs.Judged.{tale-kept}
use Rattle.hls_view_legal_laws.proofs.laws.legal_reports_tell_tales.Goals as goal

pub returns : goal.returns
returns c = λ s given boxes content is. tale-kept content (λ clause t. report_kept s given boxes content is clause t)
