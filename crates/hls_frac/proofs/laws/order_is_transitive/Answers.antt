use Rattle.hls_frac.proofs.Quotients.{at_most-trans}
use Rattle.hls_frac.proofs.laws.order_is_transitive.Goals as goal

pub returns : goal.returns
returns c = at_most-trans c.args.low c.args.middle c.args.high
