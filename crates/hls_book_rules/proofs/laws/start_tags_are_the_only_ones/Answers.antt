use Rattle.hls_book_rules.proofs.Solutions.{only_tags}
use Rattle.hls_book_rules.proofs.laws.start_tags_are_the_only_ones.Goals as goal

pub returns : goal.returns
returns c = only_tags
