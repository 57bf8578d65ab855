use Rattle.hls_book_fairness.proofs.Work.{loses_none}
use Rattle.hls_book_fairness.proofs.laws.no_given_tick_is_lost.Goals as goal

pub returns : goal.returns
returns c = loses_none c.args.sharing
