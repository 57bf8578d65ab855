use Rattle.hls_rules.proofs.Once.{once-place}
use Rattle.hls_rules.proofs.laws.books_name_each_rule_at_one_place.Goals as goal

pub returns : goal.returns
returns c = λ names each. once-place names c.args.name (each c.args.name)
