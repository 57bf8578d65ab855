use Rattle.hls_book_rules.proofs.Places.{place_rules}
use Rattle.hls_book_rules.proofs.laws.places_meet_their_rules.Goals as goal

pub returns : goal.returns
returns c = place_rules
