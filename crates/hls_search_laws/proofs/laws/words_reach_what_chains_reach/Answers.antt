use Rattle.hls_search_laws.proofs.Gains.{chain-reached}
use Rattle.hls_search_laws.proofs.laws.words_reach_what_chains_reach.Goals as goal

pub returns : goal.returns
returns c = λ steps follow. chain-reached c.args.g steps c.requires follow
