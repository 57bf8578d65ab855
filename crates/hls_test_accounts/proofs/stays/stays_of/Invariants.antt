use Rattle.std.proofs.Common.{◌≡◌, ◌++◌, take, drop}
use Rattle.hls_legal.specs.Stays.{stays_from, stays}
use Rattle.hls_test_accounts.proofs.stays.stays_of.Given as goal

abbrev pub invariant-loop-place : goal.invariant-loop-place
invariant-loop-place l =
    l.all.items ++ stays_from (take l.place l.answered) (drop l.place l.answered) ≡ stays l.answered
