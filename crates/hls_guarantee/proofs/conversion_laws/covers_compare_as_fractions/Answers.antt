use Rattle.hls_frac.proofs.Quotients.{quotient-at_most, at_most-quotient}
use Rattle.hls_guarantee.proofs.conversion_laws.covers_compare_as_fractions.Goals as goal

pub returns : goal.returns
returns c =
    let a = c.args in
    let needed = c.requires.needed in
    let given = c.requires.given in (
      quotient-at_most a.needed a.given _ _ _ _ a.d.positive a.s.positive needed given,
      at_most-quotient a.needed a.given _ _ _ _ needed given,
    )
