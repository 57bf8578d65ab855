use Rattle.hls_frac.proofs.Quotients.{quotient-at_most, at_most-quotient}
use Rattle.hls_rules.proofs.Sizes.{covers-fit}
use Rattle.hls_rules.proofs.conclusions.covers.Goals as goal

pub less_eq-requires : goal.less_eq-requires
less_eq-requires c = covers-fit c.args.s.now c.args.d.now c.quotient-needed.result c.quotient-given.result
    c.args.x c.args.y c.requires.share c.requires.size c.quotient-needed.ensures c.quotient-given.ensures

pub returns : goal.returns
returns c =
    let a = c.args in
    let first = c.quotient-needed.ensures in
    let second = c.quotient-given.ensures in (
      λ yes. at_most-quotient c.quotient-needed.result c.quotient-given.result _ _ _ _ first second
          (c.less_eq.ensures.0 yes),
      λ leads. c.less_eq.ensures.1 (quotient-at_most c.quotient-needed.result c.quotient-given.result _ _ _ _
          a.d.now.positive a.s.now.positive first second leads),
    )
