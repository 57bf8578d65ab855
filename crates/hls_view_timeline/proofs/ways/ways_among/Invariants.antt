use Rattle.std.proofs.Common.{◌≡◌, take}
use Rattle.hls_view_timeline.specs.Ways.{ways_among}
use Rattle.hls_view_timeline.proofs.ways.ways_among.Given as goal

abbrev pub invariant-loop-place : goal.invariant-loop-place
invariant-loop-place l = l.ways.items ≡ ways_among l.name (take l.place-index l.places)
