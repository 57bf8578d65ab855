use Rattle.hls_derive.proofs.Parses.{derivation-same}
use Rattle.hls_derive.proofs.laws.text_is_injective.Goals as goal

pub returns : goal.returns
returns c = derivation-same
