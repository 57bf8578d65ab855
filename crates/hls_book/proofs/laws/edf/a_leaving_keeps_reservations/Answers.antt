use Rattle.hls_book.proofs.Admitting.{keeps-leaving}
use Rattle.hls_book.proofs.laws.edf.a_leaving_keeps_reservations.Goals as goal

pub returns : goal.returns
returns c = keeps-leaving
