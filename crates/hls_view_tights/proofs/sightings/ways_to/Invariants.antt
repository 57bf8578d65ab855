use Rattle.std.proofs.Common.{◌≡◌, List, take}
use Rattle.std.specs.List.{list_any}
use Rattle.hls_view_tale.specs.declared.label.Label.{Label}
use Rattle.hls_view_lanes.specs.Likeness.{is_same}
use Rattle.hls_view_tights.specs.Tights.{has_place}
use Rattle.hls_view_tights.proofs.sightings.ways_to.Given as goal

abbrev pub invariant-loop-place : goal.invariant-loop-place
invariant-loop-place l = (row : List Label) → list_any (is_same row) l.ways.items
    ≡ has_place row l.name (take l.place-index l.hierarchy.places.items)
