use Rattle.std.proofs.Common.{inl, inr}
use Rattle.hls_offer_laws.proofs.Comings.{comes}
use Rattle.hls_offer_laws.proofs.laws.offers_need_lending.Goals as goal

pub returns : goal.returns
returns c = λ wanted narrow some offers.
    elim (comes c.args.place.now c.args.haves.now c.args.depth wanted c.requires narrow some offers) [
      | inl on ↦ (on.lent, on.is)
      | inr by ↦ (by.lent, by.is)
    ]
