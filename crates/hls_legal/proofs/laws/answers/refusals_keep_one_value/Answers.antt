use Rattle.hls_legal.proofs.OneAnswer.{applies_one}
use Rattle.hls_legal.proofs.laws.answers.refusals_keep_one_value.Goals as goal

pub returns : goal.returns
returns c = λ m command one two f g e. applies_one m command one two e f g
