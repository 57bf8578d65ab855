use Rattle.hls_machine.proofs.Supply as supply
use Rattle.hls_legal.proofs.KeepingAccounts.{stays_kept}
use Rattle.hls_legal.proofs.laws.accounts.reports_keep_their_stays.Goals as goal

pub returns : goal.returns
returns c = λ content steps legal tells.
    stays_kept content steps legal tells (supply.stays_kept steps legal)
