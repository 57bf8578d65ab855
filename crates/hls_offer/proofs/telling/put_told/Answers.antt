use Rattle.std.specs.Prelude.{option_copied}
use Rattle.hls_offer_asks.proofs.Standing.{moment_tree, ok_so, runs_stand}
use Rattle.hls_offer.proofs.Questions.{need_periods, told_as, told_left, wish_periods}
use Rattle.hls_offer.proofs.telling.put_told.Goals as goal

pub put_offer-requires-clause-periods : goal.put_offer-requires-clause-periods
put_offer-requires-clause-periods g c =
    wish_periods c.args.asked.now _ _ _ (option_copied c.stated_periods-periods.result)
    c.stated_periods-periods.ensures c.in-Offer.is c.requires.asked

pub put_need-requires-clause-periods : goal.put_need-requires-clause-periods
put_need-requires-clause-periods g c =
    need_periods c.args.asked.now _ _ _ c.in-Need.is c.requires.asked
    (option_copied c.stated_periods-periods.result) c.stated_periods-periods.ensures

pub returns-in-Offer : goal.returns-in-Offer
returns-in-Offer g c =
    ok_so c.put_offer.result _ _ (λ offers adds m at.
    told_as c.args.version c.args.asked.now _ m c.args.core.now.journal.ticks
    (option_copied c.stated_periods-periods.result) offers c.args.out.now.items c.put_offer.new.out.items
    c.in-Offer.is c.stated_periods-periods.ensures (adds c.args.version m at)) c.put_offer.ensures

pub returns-in-Need : goal.returns-in-Need
returns-in-Need g c =
    ok_so c.put_need.result _ _ (λ offers adds m at.
    told_as c.args.version c.args.asked.now _ m c.args.core.now.journal.ticks
    (option_copied c.stated_periods-periods.result) offers c.args.out.now.items c.put_need.new.out.items
    c.in-Need.is c.stated_periods-periods.ensures (adds c.args.version m at)) c.put_need.ensures

pub put_spare-requires : goal.put_spare-requires
put_spare-requires g c = record {
  stands = runs_stand _ c.args.core.now c.tree.result.now c.tree.ensures c.requires.runs _
      (λ h tree reached. reached);
}

pub returns-in_ok-put_spare-in-Spare : goal.returns-in_ok-put_spare-in-Spare
returns-in_ok-put_spare-in-Spare g c = λ m at.
    told_left _ c.args.version c.tree.result.now c.args.asked.now m c.args.core.now.journal.ticks
    c.told_periods.result.now c.args.out.now.items c.put_spare.new.out.items c.in-Spare.is c.told_periods.ensures
    (moment_tree _ c.args.core.now c.tree.result.now c.tree.ensures m at) c.in_ok-put_spare-in-Spare.ensures
