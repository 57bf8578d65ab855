use Rattle.hls_search_laws.proofs.Gains.{chain-no-better}
use Rattle.hls_search_laws.proofs.laws.conversions_gain_nothing.Goals as goal

pub returns : goal.returns
returns c = λ steps follow some. chain-no-better c.args.g steps c.requires follow some
