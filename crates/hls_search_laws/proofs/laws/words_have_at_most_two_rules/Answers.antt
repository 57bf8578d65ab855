use Rattle.hls_search_laws.proofs.Alone.{words-short}
use Rattle.hls_search_laws.proofs.laws.words_have_at_most_two_rules.Goals as goal

pub returns : goal.returns
returns c = λ word known. words-short word known
