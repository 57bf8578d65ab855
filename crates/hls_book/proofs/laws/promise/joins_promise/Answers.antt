use Rattle.hls_book.proofs.PromiseLaws.{join_keeps}
use Rattle.hls_book.proofs.laws.promise.joins_promise.Goals as goal

pub returns : goal.returns
returns c = join_keeps c.args.ports
