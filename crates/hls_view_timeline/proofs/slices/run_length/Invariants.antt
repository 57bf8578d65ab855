use Rattle.std.proofs.Common.{◌≡◌, ◌+◌, drop}
use Rattle.hls_view_timeline.specs.Slices.{run_length}
use Rattle.hls_view_timeline.proofs.slices.run_length.Given as goal

abbrev pub invariant-loop-at : goal.invariant-loop-at
invariant-loop-at l = l.at + run_length (drop l.at l.on) ≡ run_length l.on
