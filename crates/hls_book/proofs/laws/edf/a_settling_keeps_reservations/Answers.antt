use Rattle.hls_book.proofs.ServerKeeping.{keeps-settle}
use Rattle.hls_book.proofs.laws.edf.a_settling_keeps_reservations.Goals as goal

pub returns : goal.returns
returns c = keeps-settle
