use Rattle.hls_book.proofs.ServerPromises.{cap-kept}
use Rattle.hls_book.proofs.laws.edf.hard_seats_are_capped.Goals as goal

pub returns : goal.returns
returns c = cap-kept
