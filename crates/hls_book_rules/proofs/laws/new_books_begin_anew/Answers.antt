use Rattle.hls_book_rules.proofs.NewBooks.{new_begins}
use Rattle.hls_book_rules.proofs.laws.new_books_begin_anew.Goals as goal

pub returns : goal.returns
returns c = new_begins
