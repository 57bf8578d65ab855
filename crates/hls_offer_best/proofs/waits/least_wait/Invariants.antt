use Rattle.std.specs.Prelude.{IfSome}
use Rattle.hls_offer_best.specs.Best.{Waits}
use Rattle.hls_offer_best.proofs.Waiting.{WaitsBelow}
use Rattle.hls_offer_best.proofs.waits.least_wait.Given as goal

abbrev pub invariant-loop-have : goal.invariant-loop-have
invariant-loop-have g l = record {
  waits : IfSome l.least (λ wait. Waits l.seat wait);
  tried : WaitsBelow l.seat l.have-items l.least l.have-index;
}
