use Rattle.std.proofs.Common.{sym, subst}
use Rattle.hls_report.proofs.AccountSteps.{AccountsRead, one_more}
use Rattle.hls_report.proofs.account_reading.accounts.Goals as goal

pub loop-accounts-preserved : goal.loop-accounts-preserved
loop-accounts-preserved c =
    let p = rw c.in-Stay.is at c.in_ok-account.ensures.ok in
    subst (λ accounts. AccountsRead c.args.horizon accounts c.args.lines.now c.next_account.new.lines)
    (sym c.in_ok-keep_account-in-Stay.ensures)
    (one_more c.args.horizon c.loop-accounts.accounts.items c.in-Stay.account c.args.lines.now
    c.loop-accounts.lines c.next_account.new.lines c.loop-accounts.invariant p.0 p.1)
