use Rattle.std.proofs.Common.{length}
use Rattle.hls_derive.proofs.Parses.{SoFar}
use Rattle.hls_derive.proofs.reading.steps.Given as goal

abbrev pub invariant-loop-step : goal.invariant-loop-step
invariant-loop-step l = SoFar l.text l.steps.items l.rest

abbrev pub decreases-loop-step : goal.decreases-loop-step
decreases-loop-step l = length l.rest
