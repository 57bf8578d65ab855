use Rattle.hls_book.proofs.Books.{admission_made}
use Rattle.hls_book.proofs.laws.made.only_seats_ask.Goals as goal

pub returns : goal.returns
returns c = λ b made. (admission_made c.args.config b made).seated
