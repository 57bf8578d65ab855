use Rattle.hls_offer_laws.proofs.Lent.{by-terms}
use Rattle.hls_offer_laws.proofs.lending.lent_by_terms.Goals as goal

pub returns : goal.returns
returns c =
    by-terms c.args.place.now.config c.args.place.now.terms c.args.g.now c.in_ok-lent.field-0 c.unless_nothing.result
    c.requires.config c.in_ok-lent.ensures.some c.unless_nothing.ensures
