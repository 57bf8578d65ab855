use Rattle.std.proofs.Common.{◌≡◌, take, map}
use Rattle.hls_view_lanes.specs.Inside.Present.{is_here}
use Rattle.hls_view_lanes.proofs.present.all_here.Given as goal

abbrev pub invariant-loop-row : goal.invariant-loop-row
invariant-loop-row l = l.all.items ≡ map (is_here l.ways) (take l.row-index l.rows)
