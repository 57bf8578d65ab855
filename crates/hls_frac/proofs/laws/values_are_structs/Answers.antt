use Rattle.hls_frac.proofs.Quotients.{same_value-same, same-same_value}
use Rattle.hls_frac.proofs.laws.values_are_structs.Goals as goal

pub returns : goal.returns
returns c = (same_value-same c.args.a c.args.b, same-same_value c.args.a c.args.b)
