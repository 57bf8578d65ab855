use Rattle.std.proofs.Common.{◌≡◌}
use Rattle.hls_test_plain.proofs.watches.compare_all.Given as goal

abbrev pub invariant-loop-number : goal.invariant-loop-number
invariant-loop-number g l = l.watch.ticks ≡ 8
