use Rattle.std.proofs.Common.{◌≤◌}
use Rattle.hls_wheel.specs.Owners.{IsFreeFrom}
use Rattle.hls_wheel.proofs.places.lowered.Given as goal

abbrev pub decreases-loop-top : goal.decreases-loop-top
decreases-loop-top l = l.top

abbrev pub invariant-loop-top : goal.invariant-loop-top
invariant-loop-top l = record {
  free : IsFreeFrom l.owners l.top;
  most : l.top ≤ 1000;
}
