use Rattle.hls_audit_clauses.proofs.Descending.{led_down}
use Rattle.hls_audit_clauses.proofs.laws.trees_lead_down_where_nodes_do.Goals as goal

pub returns : goal.returns
returns c = λ content steps legal tells names. led_down content steps legal tells names
