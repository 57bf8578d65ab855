use Rattle.hls_view_place_laws.proofs.Given.{places-down}
use Rattle.hls_view_place_laws.proofs.laws.places_are_the_ways_down.Goals as goal

pub returns : goal.returns
returns c = places-down
