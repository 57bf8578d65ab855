use Rattle.hls_machine.proofs.Supply as supply
use Rattle.hls_legal.proofs.KeepingAccounts.{stays_kept}
use Rattle.hls_legal.proofs.KeepingStays.{report_kept}
use Rattle.hls_legal.proofs.laws.reports.legal_reports_keep_every_stay.Goals as goal

pub returns : goal.returns
returns c = λ s given boxes content legal.
    report_kept content legal.accounts
    (stays_kept content legal.steps legal.run.legal legal.run.tells (supply.stays_kept legal.steps legal.run.legal))
