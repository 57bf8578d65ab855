use Rattle.hls_view_place_laws.proofs.Given.{places-apart}
use Rattle.hls_view_place_laws.proofs.laws.places_stand_once.Goals as goal

pub returns : goal.returns
returns c = places-apart
