use Rattle.std.specs.Prelude.{IfSome}
use Rattle.hls_offer_best.specs.Best.{Gives}
use Rattle.hls_offer_best.proofs.Trying.{TriedBelow}
use Rattle.hls_offer_best.proofs.windows.most_ticks.Given as goal

abbrev pub invariant-loop-have : goal.invariant-loop-have
invariant-loop-have g l = record {
  gives : IfSome l.most (λ x. Gives l.window x);
  tried : TriedBelow l.window l.have-items l.most l.have-index;
}
