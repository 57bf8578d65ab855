use Rattle.std.specs.Prelude.{IfSome}
use Rattle.hls_offer_best.specs.Inside.Trying.{IsHad}
use Rattle.hls_offer_best.proofs.Budgets.{TriedBelow}
use Rattle.hls_offer_best.proofs.reservations.cheapest.Given as goal

abbrev pub invariant-loop-y : goal.invariant-loop-y
invariant-loop-y g l = record {
  had : IfSome l.best (λ b. IsHad l.need l.periods b);
  tried : TriedBelow l.need l.periods l.best l.y-index;
}
