use Rattle.hls_legal.proofs.Agreements.{accounts_told, idle_told}
use Rattle.hls_legal.proofs.laws.accounts.reports_tell_the_accounts.Goals as goal

pub returns-clause-accounts : goal.returns-clause-accounts
returns-clause-accounts c = λ content steps. accounts_told content steps

pub returns-clause-idle : goal.returns-clause-idle
returns-clause-idle c = λ content steps. idle_told content steps
