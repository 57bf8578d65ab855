use Rattle.hls_book.proofs.Bounds.{keeps-discipline}
use Rattle.hls_book.proofs.laws.sfq.fair_queueing_keeps_discipline.Goals as goal

pub returns : goal.returns
returns c = keeps-discipline c.args.sharing
