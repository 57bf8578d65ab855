use Rattle.hls_frac.proofs.Quotients.{quotient-cancel, quotient-scale}
use Rattle.hls_frac.proofs.laws.common_factor_cancels.Goals as goal

pub returns : goal.returns
returns c = (
  quotient-cancel c.args.f c.args.num c.args.den c.args.factor c.requires,
  quotient-scale c.args.f c.args.num c.args.den c.args.factor,
)
