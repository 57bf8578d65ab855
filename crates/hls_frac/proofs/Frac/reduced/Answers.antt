use Rattle.hls_frac.proofs.Lowest.{same_value, den_positive, over_gcd}
use Rattle.hls_frac.proofs.Frac.reduced.Goals as goal

pub invariant_of-result : goal.invariant_of-result
invariant_of-result c = record {
  positive = den_positive _ _ _ c.requires c.gcd-common.ensures;
  lowest = over_gcd _ _ _ c.requires c.gcd-common.ensures;
}

pub returns : goal.returns
returns c = same_value _ _ _ c.gcd-common.ensures
