use Rattle.std.proofs.Common.{◌≡◌, take, drop}
use Rattle.hls_legal.specs.Stays.{closed}
use Rattle.hls_test_accounts.proofs.stays.closed.Given as goal

abbrev pub invariant-loop-i : goal.invariant-loop-i
invariant-loop-i l =
    closed (take l.i l.answered) (drop l.i l.answered) l.name
    ≡ closed (take l.from l.answered) (drop l.from l.answered) l.name
