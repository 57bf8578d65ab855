use Rattle.std.specs.Prelude.{IfSome}
use Rattle.hls_offer_best.specs.Reservations.{IsOf}
use Rattle.hls_offer_best.proofs.reservations.guessed.Given as goal

abbrev pub invariant-loop-y : goal.invariant-loop-y
invariant-loop-y l = IfSome l.best (λ b. IsOf l.periods b)
