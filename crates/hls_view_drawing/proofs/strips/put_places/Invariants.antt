use Rattle.std.proofs.Common.{◌≡◌, ◌++◌, [], take, flat_map, get_or, codes}
use Rattle.hls_view_drawing.proofs.strips.put_places.Given as goal

abbrev pub invariant-loop-place : goal.invariant-loop-place
invariant-loop-place l = l.text.items ≡ l.fn.text.items
    ++ flat_map (λ place. codes "/" ++ get_or l.names place []) (take l.place-index l.places)
