use Rattle.std.proofs.Common.{ap}
use Rattle.std.specs.Prelude.{option_copied}
use Rattle.hls_offer_lines.proofs.Reserving.{whole-first}
use Rattle.hls_offer_lines.proofs.terms.first_reservation.Goals as goal

pub returns-in_ok-all_periods-in-None : goal.returns-in_ok-all_periods-in-None
returns-in_ok-all_periods-in-None g c =
    whole-first c.args.asked.now c.requires.edf c.in_ok-all_periods-in-None.field-0.items c.deref.result.now
    c.in_ok-all_periods-in-None.ensures.each c.deref.ensures.value c.cheapest_of-in-None.result
    c.cheapest_of-in-None.ensures (option_copied c.args.periods) (ap option_copied c.in-None.is)
