use Rattle.hls_machine.proofs.Follows.{derivation_follows}
use Rattle.hls_machine.proofs.laws.derivations_follow.Goals as goal

pub returns : goal.returns
returns c = λ haves d. derivation_follows c.args.place haves c.args.want d
