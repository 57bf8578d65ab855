use Rattle.hls_book_rules.proofs.Solutions.{only_claims}
use Rattle.hls_book_rules.proofs.laws.budgets_are_the_only_ones.Goals as goal

pub returns : goal.returns
returns c = λ asks serves claims rules sure. only_claims c.args.reservation asks serves claims sure rules
