use Rattle.std.proofs.Common.{◌≤◌, ◌*◌, mul-pos}
use Rattle.hls_frac.proofs.Quotients.{quotient-at_most, at_most-quotient}
use Rattle.hls_rules.proofs.Sizes.{starts-fit}
use Rattle.hls_rules.proofs.conclusions.starts_no_later.Goals as goal

pub less_eq-requires : goal.less_eq-requires
less_eq-requires c =
    starts-fit _ _ _ _ _ _ c.requires.first c.requires.second c.mul.ensures c.mul-2.ensures

pub returns : goal.returns
returns c =
    let a = c.args in
    let first = c.mul.ensures in
    let second = c.mul-2.ensures in
    let left : 1 ≤ a.d.now.den * a.rate.now.den = mul-pos a.d.now.positive a.rate.now.positive in
    let right : 1 ≤ a.error.now.den * a.s.now.den = mul-pos a.error.now.positive a.s.now.positive in (
      λ yes. at_most-quotient c.mul.result c.mul-2.result _ _ _ _ first second (c.less_eq.ensures.0 yes),
      λ leads. c.less_eq.ensures.1 (quotient-at_most c.mul.result c.mul-2.result _ _ _ _ left right first
          second leads),
    )
