use Rattle.hls_book.proofs.Books.{reservations_made, shares_made, places_made}
use Rattle.hls_book.proofs.laws.made.made_books_meet_their_kind.Goals as goal

pub returns-clause-reservations : goal.returns-clause-reservations
returns-clause-reservations c = reservations_made

pub returns-clause-shares : goal.returns-clause-shares
returns-clause-shares c = shares_made

pub returns-clause-places : goal.returns-clause-places
returns-clause-places c = places_made
