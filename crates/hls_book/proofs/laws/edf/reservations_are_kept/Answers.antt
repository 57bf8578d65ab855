use Rattle.hls_book.proofs.ServerPromises.{promise-kept}
use Rattle.hls_book.proofs.laws.edf.reservations_are_kept.Goals as goal

pub returns : goal.returns
returns c = promise-kept
