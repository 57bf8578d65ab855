use Rattle.hls_book_isolation.proofs.Spares.{spares_budgets}
use Rattle.hls_book_isolation.proofs.laws.service_without_budget_takes_none.Goals as goal

pub returns : goal.returns
returns c = spares_budgets
