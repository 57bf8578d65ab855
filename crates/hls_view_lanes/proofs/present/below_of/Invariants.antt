use Rattle.std.proofs.Common.{◌≡◌, ◌++◌, drop}
use Rattle.hls_view_lanes.specs.Likeness.{begins}
use Rattle.hls_view_lanes.specs.Inside.Present.{places_from}
use Rattle.hls_view_lanes.proofs.present.below_of.Given as goal

abbrev pub invariant-loop-at : goal.invariant-loop-at
invariant-loop-at l =
    places_from (begins l.row) 0 l.ways ≡ l.below.items ++ places_from (begins l.row) l.at (drop l.at l.ways)
