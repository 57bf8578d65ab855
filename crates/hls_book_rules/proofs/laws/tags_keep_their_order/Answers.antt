use Rattle.hls_book_rules.proofs.TagOrder.{tag_order}
use Rattle.hls_book_rules.proofs.laws.tags_keep_their_order.Goals as goal

pub returns : goal.returns
returns c = λ b made row is. tag_order c.args.sharing b row made is
