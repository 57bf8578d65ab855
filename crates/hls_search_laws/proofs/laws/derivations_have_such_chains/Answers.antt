use Rattle.hls_search_laws.proofs.Chains.{steps-reach, reach-steps}
use Rattle.hls_search_laws.proofs.laws.derivations_have_such_chains.Goals as goal

pub returns-clause-chain : goal.returns-clause-chain
returns-clause-chain c = λ steps follow. steps-reach c.args.g steps follow

pub returns-clause-derivation : goal.returns-clause-derivation
returns-clause-derivation c = λ chain r. reach-steps chain c.args.g c.args.h r
