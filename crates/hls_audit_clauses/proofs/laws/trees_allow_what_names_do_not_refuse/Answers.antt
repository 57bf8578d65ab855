use Rattle.hls_audit_clauses.proofs.Reasoned.{allowed_both}
use Rattle.hls_audit_clauses.proofs.laws.trees_allow_what_names_do_not_refuse.Goals as goal

pub returns : goal.returns
returns c = λ content steps legal tells m is version command within.
    allowed_both content steps legal tells m is version command within
