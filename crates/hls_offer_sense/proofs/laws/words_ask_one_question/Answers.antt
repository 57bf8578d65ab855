use Rattle.hls_offer_sense.proofs.Questions.{one_asked}
use Rattle.hls_offer_sense.proofs.laws.words_ask_one_question.Goals as goal

pub returns : goal.returns
returns c = one_asked
