use Rattle.hls_book.proofs.SharePromises.{fair_keeps}
use Rattle.hls_book.proofs.laws.sfq.fair_queueing_promises.Goals as goal

pub returns : goal.returns
returns c = fair_keeps c.args.sharing
