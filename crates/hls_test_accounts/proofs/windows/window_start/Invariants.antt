use Rattle.hls_report_text.specs.Content.{content_of}
use Rattle.hls_legal.proofs.KeepingAccounts.{IsReadySince}
use Rattle.hls_test_accounts.proofs.windows.window_start.Given as goal

abbrev pub invariant-loop-tick : goal.invariant-loop-tick
invariant-loop-tick l = IsReadySince (content_of l.report) l.stay.name l.stay.since l.from l.tick
