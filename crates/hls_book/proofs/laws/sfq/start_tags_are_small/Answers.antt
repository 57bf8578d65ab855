use Rattle.hls_book.proofs.Bounds.{tags-small}
use Rattle.hls_book.proofs.laws.sfq.start_tags_are_small.Goals as goal

pub returns : goal.returns
returns c = tags-small c.args.sharing
