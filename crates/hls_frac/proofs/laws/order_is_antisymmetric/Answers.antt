use Rattle.hls_frac.proofs.Quotients.{at_most-same}
use Rattle.hls_frac.proofs.laws.order_is_antisymmetric.Goals as goal

pub returns : goal.returns
returns c = at_most-same c.args.a c.args.b
