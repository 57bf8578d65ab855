use Rattle.hls_kinds.proofs.MadeLaws.{made_new, made_mark, made_row}
use Rattle.hls_book.proofs.laws.made.books_are_made_step_by_step.Goals as goal

pub returns-clause-begun : goal.returns-clause-begun
returns-clause-begun c = made_new c.args.config

pub returns-clause-marked : goal.returns-clause-marked
returns-clause-marked c = made_mark c.args.config

pub returns-clause-ticked : goal.returns-clause-ticked
returns-clause-ticked c = made_row c.args.config
