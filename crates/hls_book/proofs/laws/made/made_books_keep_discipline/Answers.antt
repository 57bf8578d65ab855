use Rattle.hls_book.proofs.Books.{discipline_made}
use Rattle.hls_book.proofs.laws.made.made_books_keep_discipline.Goals as goal

pub returns : goal.returns
returns c = discipline_made c.args.config
