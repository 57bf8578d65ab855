use Rattle.hls_audit_clauses.proofs.laws.broken_reports_are_not_kept.Goals as goal

pub returns : goal.returns
returns c = λ content number t broken kept. kept broken.clause t broken.fails
