use Rattle.hls_book.proofs.PromiseLaws.{fixed_priority_keeps}
use Rattle.hls_book.proofs.laws.promise.fixed_priority_promises.Goals as goal

pub returns : goal.returns
returns c = fixed_priority_keeps
