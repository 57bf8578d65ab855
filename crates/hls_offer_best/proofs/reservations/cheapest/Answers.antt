use Rattle.hls_offer_best.proofs.Budgets.{cheapest-of-all}
use Rattle.hls_offer_best.proofs.reservations.cheapest.Goals as goal

pub returns : goal.returns
returns g c =
    let need = c.args.need.now in
    cheapest-of-all need c.args.periods.now c.loop-y.best c.loop-y.y-index c.loop-y-test.false
    c.loop-y.invariant.tried c.loop-y.invariant.had
    (λ hard b range meets.
    c.reservations_have_sizes.ensures.soft hard b.x b.y need.wanted range c.requires.can.wanted
    c.requires.can.soft meets)
