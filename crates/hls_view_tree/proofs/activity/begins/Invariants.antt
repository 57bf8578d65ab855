use Rattle.hls_view_tree.proofs.Ways.{IsLeft}
use Rattle.hls_view_tree.proofs.activity.begins.Given as goal

abbrev pub invariant-loop-at : goal.invariant-loop-at
invariant-loop-at l = IsLeft l.names l.way l.at
