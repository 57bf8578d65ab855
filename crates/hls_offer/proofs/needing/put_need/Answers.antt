use Rattle.std.proofs.Common.{Option, subst}
use Rattle.std.specs.Prelude.{option_copied}
use Rattle.hls_text.specs.Lines.{Text}
use Rattle.hls_offer_words.specs.Table.{IsPlace}
use Rattle.hls_offer_asks.proofs.Standing.{ok_so}
use Rattle.hls_offer.proofs.Questions.{told_place, told_places}
use Rattle.hls_offer.proofs.needing.put_need.Goals as goal

pub put_place-requires-clause-on : goal.put_place-requires-clause-on
put_place-requires-clause-on g c = subst (λ (o : Option Text). IsPlace o) c.in-Some.is c.requires.on

pub returns-in-Some : goal.returns-in-Some
returns-in-Some g c =
    ok_so c.put_place.result _ _ (λ offers adds version m at.
    told_place version m c.args.core.now.journal.ticks c.args.sought.now.need c.args.on
    (option_copied c.args.sought.now.periods) offers c.args.out.now.items c.put_place.new.out.items
    c.in-Some.scheduler c.in-Some.is (adds m at)) c.put_place.ensures

pub returns-in-None : goal.returns-in-None
returns-in-None g c =
    ok_so c.put_places.result _ _ (λ offers adds version m at.
    told_places version m c.args.core.now.journal.ticks c.args.sought.now.need c.args.on
    (option_copied c.args.sought.now.periods) offers c.args.out.now.items c.put_places.new.out.items
    c.in-None.is (adds m at)) c.put_places.ensures
