use Rattle.hls_book.proofs.ServerPromises.{cap-kept}
use Rattle.hls_book.proofs.Books.{reservations_made}
use Rattle.hls_book.proofs.laws.made.made_reservations_keep_their_caps.Goals as goal

pub returns : goal.returns
returns c = λ b slot r made. cap-kept b slot r (reservations_made b made)
