use Rattle.std.proofs.Common.{◌≡◌, take, map}
use Rattle.hls_view_tale.specs.Places.{labels_of}
use Rattle.hls_view_lanes.proofs.ways.ways_of.Given as goal

abbrev pub invariant-loop-place : goal.invariant-loop-place
invariant-loop-place l = l.ways.items ≡ map labels_of (take l.place-index l.places)
