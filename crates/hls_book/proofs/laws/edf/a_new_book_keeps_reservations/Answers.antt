use Rattle.hls_book.proofs.ServerPromises.{keeps-new}
use Rattle.hls_book.proofs.laws.edf.a_new_book_keeps_reservations.Goals as goal

pub returns : goal.returns
returns c = keeps-new
