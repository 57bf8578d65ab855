use Rattle.hls_book.proofs.Admitting.{keeps-seating}
use Rattle.hls_book.proofs.laws.edf.a_seating_keeps_reservations.Goals as goal

pub returns : goal.returns
returns c = keeps-seating
