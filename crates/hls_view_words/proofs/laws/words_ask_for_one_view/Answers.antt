use Rattle.hls_view_words.proofs.OneView.{same_view}
use Rattle.hls_view_words.proofs.laws.words_ask_for_one_view.Goals as goal

pub returns : goal.returns
returns c = λ words one two. same_view words one two
