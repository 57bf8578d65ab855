use Rattle.std.proofs.Common.{◌≤◌, ◌+◌, ◌-◌}
use Rattle.hls_view_margins.proofs.Walks.{IsWalked}
use Rattle.hls_view_margins.proofs.best.pieces_of.Given as goal

abbrev pub invariant-loop-from : goal.invariant-loop-from
invariant-loop-from l = record {
  walked : IsWalked l.scale l.served.spans.items l.cut l.most l.from l.next l.least l.over;
  small : l.next ≤ l.from + l.cut.period;
}

abbrev pub decreases-loop-from : goal.decreases-loop-from
decreases-loop-from l = l.cut.hi + l.cut.period - l.next
