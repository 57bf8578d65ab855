use Rattle.hls_audit_clauses.proofs.Broken.{broken_once}
use Rattle.hls_audit_clauses.proofs.laws.reports_are_broken_once.Goals as goal

pub returns : goal.returns
returns c = λ content n m t u f g. broken_once content n m t u f g
