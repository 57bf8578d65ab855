use Rattle.hls_guarantee.proofs.Injective.{spelling-same}
use Rattle.hls_guarantee.proofs.laws.spelling_is_injective.Goals as goal

pub returns : goal.returns
returns c = spelling-same c.args.g c.args.h c.requires.g c.requires.h
