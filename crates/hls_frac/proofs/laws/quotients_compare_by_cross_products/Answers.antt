use Rattle.hls_frac.proofs.Quotients.{quotient-at_most, at_most-quotient, quotient-same, same-quotient}
use Rattle.hls_frac.proofs.laws.quotients_compare_by_cross_products.Goals as goal

pub returns-clause-order : goal.returns-clause-order
returns-clause-order c = (
  at_most-quotient c.args.a c.args.b _ _ _ _ c.requires.a c.requires.b,
  quotient-at_most c.args.a c.args.b _ _ _ _ c.requires.a_positive c.requires.b_positive
      c.requires.a c.requires.b,
)

pub returns-clause-same : goal.returns-clause-same
returns-clause-same c = (
  same-quotient c.args.a c.args.b _ _ _ _ c.requires.a c.requires.b,
  quotient-same c.args.a c.args.b _ _ _ _ c.requires.a_positive c.requires.b_positive
      c.requires.a c.requires.b,
)
