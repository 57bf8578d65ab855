use Rattle.std.proofs.Common.{◌≡◌, length}
use Rattle.hls_test_plain.proofs.watches.compare.Given as goal

abbrev pub invariant-loop-at : goal.invariant-loop-at
invariant-loop-at g l = record { ticks : l.watch.ticks ≡ 8; told : length l.watch.list ≡ l.at }
