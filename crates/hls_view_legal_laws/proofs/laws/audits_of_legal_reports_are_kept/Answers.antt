use Rattle.hls_audit_clauses.proofs.Kept.{report_kept}
use Rattle.hls_view_legal_laws.proofs.Judged.{audit-kept}
use Rattle.hls_view_legal_laws.proofs.laws.audits_of_legal_reports_are_kept.Goals as goal

pub returns : goal.returns
returns c = λ s given boxes content audit is audited.
    audit-kept content audit (λ clause t. report_kept s given boxes content is clause t) audited
