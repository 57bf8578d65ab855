use Rattle.std.proofs.Common.{◌≡◌, take}
use Rattle.hls_view_lanes.specs.Rows.{reach}
use Rattle.hls_view_lanes.proofs.rows.reach.Given as goal

abbrev pub invariant-loop-at : goal.invariant-loop-at
invariant-loop-at l = l.reach ≡ reach l.above (take l.at l.rows)
