use Rattle.hls_book.proofs.ServerKeeping.{keeps-row}
use Rattle.hls_book.proofs.laws.edf.a_tick_keeps_reservations.Goals as goal

pub returns : goal.returns
returns c = keeps-row
