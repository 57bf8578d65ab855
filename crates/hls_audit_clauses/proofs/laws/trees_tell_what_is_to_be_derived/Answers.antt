use Rattle.hls_audit_clauses.proofs.Settling.{dues_told}
use Rattle.hls_audit_clauses.proofs.laws.trees_tell_what_is_to_be_derived.Goals as goal

pub returns : goal.returns
returns c = λ content steps legal tells command. dues_told content steps legal tells command
