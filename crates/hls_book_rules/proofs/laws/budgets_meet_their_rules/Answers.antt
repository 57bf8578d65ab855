use Rattle.hls_book_rules.proofs.Budgets.{budget_rules}
use Rattle.hls_book_rules.proofs.laws.budgets_meet_their_rules.Goals as goal

pub returns : goal.returns
returns c = budget_rules c.args.reservation
