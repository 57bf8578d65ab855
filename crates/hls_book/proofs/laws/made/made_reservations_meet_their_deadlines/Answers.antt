use Rattle.hls_book.proofs.ServerPromises.{deadline-found}
use Rattle.hls_book.proofs.Books.{reservations_made}
use Rattle.hls_book.proofs.laws.made.made_reservations_meet_their_deadlines.Goals as goal

pub returns : goal.returns
returns c = λ b slot t last r made. deadline-found b slot t last r (reservations_made b made)
