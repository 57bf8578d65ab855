use Rattle.std.proofs.Common.{◌<◌}
use Rattle.hls_order.proofs.Passing.{IsPlayed}
use Rattle.hls_order.proofs.order.first_but.Given as goal

abbrev pub invariant-loop-at : goal.invariant-loop-at
invariant-loop-at l = record {
  within : l.at < 63;
  played : IsPlayed l.keys l.winners l.slot l.at l.first;
}

abbrev pub decreases-loop-at : goal.decreases-loop-at
decreases-loop-at l = l.at
