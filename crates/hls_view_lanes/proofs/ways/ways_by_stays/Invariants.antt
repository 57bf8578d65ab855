use Rattle.std.proofs.Common.{◌≡◌, take}
use Rattle.hls_view_lanes.specs.Rows.{by_stays}
use Rattle.hls_view_lanes.proofs.ways.ways_by_stays.Given as goal

abbrev pub invariant-loop-standing : goal.invariant-loop-standing
invariant-loop-standing l =
    l.all.items ≡ by_stays (take l.standing-index l.hierarchy.standing.items) l.hierarchy.places.items
