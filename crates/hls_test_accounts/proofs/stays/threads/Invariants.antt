use Rattle.std.proofs.Common.{◌≡◌, ◌++◌, drop}
use Rattle.hls_legal.specs.Stays.{threads}
use Rattle.hls_test_accounts.proofs.stays.threads.Given as goal

abbrev pub invariant-loop-i : goal.invariant-loop-i
invariant-loop-i l = l.names.items ++ threads (drop l.i l.answered) ≡ threads l.answered
