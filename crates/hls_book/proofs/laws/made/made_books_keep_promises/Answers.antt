use Rattle.hls_book.proofs.Books.{promise_made}
use Rattle.hls_book.proofs.laws.made.made_books_keep_promises.Goals as goal

pub returns : goal.returns
returns c = promise_made c.args.config
