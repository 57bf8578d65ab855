use Rattle.hls_offer_lines.proofs.Reserving.{cheapest-some, cheapest-none}
use Rattle.hls_offer_lines.proofs.terms.cheapest_of.Goals as goal

pub returns-in_default : goal.returns-in_default
returns-in_default g c =
    cheapest-none c.args.asked.now c.requires.edf c.args.periods.now c.in_ok-best.field-0 c.in_default.is
    c.in_ok-best.ensures

pub returns : goal.returns
returns g c =
    cheapest-some c.args.asked.now c.requires.edf c.args.periods.now c.in_ok-best.field-0 c.in-Some.best
    c.in-Some.is c.in_ok-best.ensures
