use Rattle.hls_legal.proofs.OneAnswer.{answer_one}
use Rattle.hls_legal.proofs.laws.answers.answers_are_determined.Goals as goal

pub returns : goal.returns
returns c = λ m command one two f g. answer_one m command one two f g
