use Rattle.hls_guarantee.proofs.Promises.{supplies-agree}
use Rattle.hls_guarantee.proofs.laws.supply_goes_over.Goals as goal

pub returns : goal.returns
returns c = λ served given asks wants. supplies-agree c.args.g served given asks wants
