use Rattle.hls_legal.proofs.Agreements.{stays_told}
use Rattle.hls_legal.proofs.laws.accounts.reports_tell_the_stays.Goals as goal

pub returns : goal.returns
returns c = λ content steps. stays_told content steps
