use Rattle.std.proofs.Common.{◌≡◌, ◌++◌, map, take}
use Rattle.hls_view_tale.specs.declared.place.Place.{Place}
use Rattle.hls_view_tale.proofs.moving.put_names.Given as goal

abbrev pub invariant-loop-place : goal.invariant-loop-place
invariant-loop-place l =
    l.names.items ≡ l.initial.names.items ++ map (λ (p : Place). p.label.name) (take l.place-index l.places)
