use Rattle.hls_derive.proofs.Fronts.{no_step}
use Rattle.hls_derive.proofs.reading.step.Goals as goal

pub returns-in_default : goal.returns-in_default
returns-in_default c = λ s rest stands. no_step c.args.text.now s rest c.in_default.ensures.read stands
