use Rattle.std.proofs.Common.{◌≡◌, take}
use Rattle.hls_view_lanes.specs.Rows.{ways_to}
use Rattle.hls_view_lanes.proofs.ways.ways_to.Given as goal

abbrev pub invariant-loop-place : goal.invariant-loop-place
invariant-loop-place l = l.ways.items ≡ ways_to (take l.place-index l.places) l.name
