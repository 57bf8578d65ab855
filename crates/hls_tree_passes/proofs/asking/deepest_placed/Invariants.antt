use Rattle.hls_tree_passes.proofs.Levels.{IsPlacedBelow}
use Rattle.hls_tree_passes.proofs.asking.deepest_placed.Given as goal

abbrev pub invariant-loop-step : goal.invariant-loop-step
invariant-loop-step l = IsPlacedBelow l.places l.step
