use Rattle.hls_legal.proofs.Agreements.{agreed}
use Rattle.hls_legal.proofs.laws.accounts.reports_tell_who_is_ready_and_served.Goals as goal

pub returns : goal.returns
returns c = λ content steps. agreed content steps
