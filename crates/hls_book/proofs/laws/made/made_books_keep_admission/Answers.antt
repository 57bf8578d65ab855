use Rattle.hls_book.proofs.Books.{admission_made}
use Rattle.hls_book.proofs.laws.made.made_books_keep_admission.Goals as goal

pub returns : goal.returns
returns c = admission_made c.args.config
