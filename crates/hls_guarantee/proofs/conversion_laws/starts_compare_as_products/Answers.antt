use Rattle.std.proofs.Common.{◌≤◌, ◌*◌, mul-pos}
use Rattle.hls_frac.proofs.Quotients.{quotient-at_most, at_most-quotient}
use Rattle.hls_guarantee.proofs.conversion_laws.starts_compare_as_products.Goals as goal

pub returns : goal.returns
returns c =
    let a = c.args in
    let first = c.requires.first in
    let second = c.requires.second in
    let left : 1 ≤ a.d.den * a.rate.den = mul-pos a.d.positive a.rate.positive in
    let right : 1 ≤ a.error.den * a.s.den = mul-pos a.error.positive a.s.positive in (
      quotient-at_most a.first a.second _ _ _ _ left right first second,
      at_most-quotient a.first a.second _ _ _ _ first second,
    )
