use Rattle.hls_legal.proofs.Exists.{answered}
use Rattle.hls_legal.proofs.laws.answers.no_command_lacks_an_answer.Goals as goal

pub returns : goal.returns
returns c = λ m command no. answered m command no
