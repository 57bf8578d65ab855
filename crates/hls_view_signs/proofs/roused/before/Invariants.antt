use Rattle.std.proofs.Common.{◌-◌}
use Rattle.hls_view_signs.specs.Inside.Scenes.{IsParted}
use Rattle.hls_view_signs.proofs.roused.before.Given as goal

abbrev pub invariant-loop-low : goal.invariant-loop-low
invariant-loop-low l = IsParted l.notes l.tick l.low l.high

abbrev pub decreases-loop-low : goal.decreases-loop-low
decreases-loop-low l = l.high - l.low
