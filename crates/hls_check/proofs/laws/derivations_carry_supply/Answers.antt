use Rattle.hls_check.proofs.Carrying.{derivation-carries}
use Rattle.hls_check.proofs.laws.derivations_carry_supply.Goals as goal

pub returns : goal.returns
returns c = λ haves d b slot since.
    derivation-carries c.args.place haves c.args.have c.args.want d b slot since
