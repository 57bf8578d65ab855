use Rattle.std.proofs.Common.{◌≡◌, ◌++◌, drop}
use Rattle.hls_view_scale.specs.Heights.{heights, heights_from}
use Rattle.hls_view_scale.proofs.heights.heights.Given as goal

abbrev pub invariant-loop-at : goal.invariant-loop-at
invariant-loop-at l =
    l.high.items ++ heights_from l.scale l.full l.at (drop l.at l.counts) ≡ heights l.scale l.full l.counts
