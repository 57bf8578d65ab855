use Rattle.hls_book.proofs.ServerPromises.{deadline-found}
use Rattle.hls_book.proofs.laws.edf.deadlines_find_no_budget.Goals as goal

pub returns : goal.returns
returns c = deadline-found
