use Rattle.std.specs.Prelude.{option_copied}
use Rattle.hls_offer_asks.proofs.Standing.{is_moment, moment_of}
use Rattle.hls_offer.proofs.Answered.{place_refused}
use Rattle.hls_offer.proofs.Formed.{had_formed}
use Rattle.hls_offer.proofs.needing.put_place.Goals as goal

pub put_wish-requires-clause-wish : goal.put_wish-requires-clause-wish
put_wish-requires-clause-wish g c =
    let m = moment_of _ c.args.core.now c.requires.runs in
    let at = is_moment _ c.args.core.now c.requires.runs in
    record {
      name = c.requires.need.name;
      on = c.requires.on;
      terms = had_formed m at.reached c.args.sought.now.need c.args.on.now (option_copied c.args.sought.now.periods)
          c.in-At.terms
          c.in_ok-terms.field-0 c.in-At.is (c.in_ok-terms.ensures.is m at);
    }

pub returns-in_ok-put_refused-in-Refused : goal.returns-in_ok-put_refused-in-Refused
returns-in_ok-put_refused-in-Refused g c = λ m at.
    place_refused m c.args.core.now.journal.ticks c.args.sought.now.need (option_copied c.args.sought.now.periods)
    c.args.on.now
    c.in-Refused.terms c.in-Refused.refusal c.in_ok-terms.field-0 c.args.out.now.items c.put_refused.new.out.items
    c.in-Refused.is (c.in_ok-terms.ensures.is m at) (c.in_ok-terms.ensures.nowhere m at)
    c.in_ok-put_refused-in-Refused.ensures
