use Rattle.std.specs.Prelude.{◌-◌}
use Rattle.hls_offer_lines.proofs.Rising.{OwnUpTo}
use Rattle.hls_offer_lines.proofs.periods.own_periods.Given as goal

abbrev pub invariant-loop-y : goal.invariant-loop-y
invariant-loop-y l = OwnUpTo l.lent l.periods.items l.last

abbrev pub decreases-loop-y : goal.decreases-loop-y
decreases-loop-y l = 20000 - l.last
