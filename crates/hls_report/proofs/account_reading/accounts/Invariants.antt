use Rattle.std.proofs.Common.{length}
use Rattle.hls_report.proofs.AccountSteps.{AccountsRead}
use Rattle.hls_report.proofs.account_reading.accounts.Given as goal

abbrev pub invariant-loop-accounts : goal.invariant-loop-accounts
invariant-loop-accounts l = AccountsRead l.horizon l.accounts.items l.fn.lines l.lines

abbrev pub decreases-loop-accounts : goal.decreases-loop-accounts
decreases-loop-accounts l = length l.lines.rest.now
