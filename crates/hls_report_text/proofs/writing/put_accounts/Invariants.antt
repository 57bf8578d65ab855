use Rattle.std.proofs.Common.{◌≡◌, ◌++◌, take, flat_map}
use Rattle.hls_report_text.specs.ReportText.{with_end, account_text}
use Rattle.hls_report_text.proofs.writing.put_accounts.Given as goal

abbrev pub invariant-loop-account : goal.invariant-loop-account
invariant-loop-account l =
    l.out.items ≡ l.fn.out.items ++ flat_map (λ a. with_end (account_text a))
    (take l.account-index l.accounts)
