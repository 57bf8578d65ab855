use Rattle.hls_book_rules.proofs.Tags.{tag_rules}
use Rattle.hls_book_rules.proofs.laws.tags_meet_their_rules.Goals as goal

pub returns : goal.returns
returns c = tag_rules c.args.sharing
