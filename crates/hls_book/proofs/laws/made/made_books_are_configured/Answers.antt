use Rattle.hls_book.proofs.Books.{kind_made, range_made}
use Rattle.hls_book.proofs.laws.made.made_books_are_configured.Goals as goal

pub returns-clause-kind : goal.returns-clause-kind
returns-clause-kind c = kind_made c.args.config

pub returns-clause-range : goal.returns-clause-range
returns-clause-range c = range_made c.args.config
