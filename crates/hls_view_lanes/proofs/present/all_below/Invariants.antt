use Rattle.std.proofs.Common.{◌≡◌, take, map}
use Rattle.hls_view_lanes.specs.Inside.Present.{below_of}
use Rattle.hls_view_lanes.proofs.present.all_below.Given as goal

abbrev pub invariant-loop-row : goal.invariant-loop-row
invariant-loop-row l = l.all.items ≡ map (below_of l.ways) (take l.row-index l.rows)
