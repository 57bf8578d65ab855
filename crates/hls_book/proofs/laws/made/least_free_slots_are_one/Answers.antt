use Rattle.hls_book.proofs.Vacancies.{free_or_full, free_one}
use Rattle.hls_book.proofs.laws.made.least_free_slots_are_one.Goals as goal

pub returns-clause-some : goal.returns-clause-some
returns-clause-some c = free_or_full c.args.config

pub returns-clause-one : goal.returns-clause-one
returns-clause-one c = free_one c.args.config
