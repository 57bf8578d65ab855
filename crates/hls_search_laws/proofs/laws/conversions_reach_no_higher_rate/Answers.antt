use Rattle.hls_search_laws.proofs.Gains.{chain-no-faster}
use Rattle.hls_search_laws.proofs.laws.conversions_reach_no_higher_rate.Goals as goal

pub returns : goal.returns
returns c = λ steps follow faster. chain-no-faster c.args.g steps c.requires follow faster
