use Rattle.hls_check.proofs.Failing.{derivation-holds, steps-derivation}
use Rattle.hls_check.proofs.laws.derivations_hold_step_by_step.Goals as goal

pub returns : goal.returns
returns c = λ haves d. (
  derivation-holds c.args.place haves c.args.want d,
  steps-derivation c.args.place haves c.args.want d,
)
