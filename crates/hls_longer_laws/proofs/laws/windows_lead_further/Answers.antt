use Rattle.std.proofs.Common.{arith}
use Rattle.hls_longer_laws.proofs.laws.windows_lead_further.Goals as goal

pub returns : goal.returns
returns c = λ leads. record {
  times = 1;
  some = omega arith;
  enough = omega (arith, leads.0);
  within = omega (arith, leads.1);
}
