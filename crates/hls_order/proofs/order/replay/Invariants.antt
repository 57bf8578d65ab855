use Rattle.std.proofs.Common.{◌≡◌, ◌<◌, length, get_or}
use Rattle.hls_order.specs.Order.{none}
use Rattle.hls_order.specs.Inside.Rising.{IsRightBut}
use Rattle.hls_order.proofs.order.replay.Given as goal

abbrev pub invariant-loop-at : goal.invariant-loop-at
invariant-loop-at l = record {
  size : length l.winners ≡ 63;
  within : l.at < 63;
  here : get_or l.winners l.at none ≡ l.winner;
  right : IsRightBut l.keys l.winners l.at;
}

abbrev pub decreases-loop-at : goal.decreases-loop-at
decreases-loop-at l = l.at
