use Rattle.hls_offer_laws.proofs.lending.passed_on.Goals as goal

pub returns-in-Sole : goal.returns-in-Sole
returns-in-Sole c = λ lent. (
  λ is. (let both = (c.unless_nothing.ensures lent).0 is in (c.in-Sole.is, both.0, both.1)),
  λ all. (c.unless_nothing.ensures lent).1 (all.1, all.2),
)
