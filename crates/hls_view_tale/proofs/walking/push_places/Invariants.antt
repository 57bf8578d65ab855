use Rattle.std.proofs.Common.{vec_len}
use Rattle.hls_view_tale.proofs.Stacks.{ArePushed}
use Rattle.std.proofs.Common.{◌++◌, map}
use Rattle.std.specs.Prelude.{reverse}
use Rattle.hls_view_tale.specs.Inside.Pending.{pending_at}
use Rattle.hls_view_tale.proofs.walking.push_places.Given as goal

abbrev pub invariant-loop-label : goal.invariant-loop-label
invariant-loop-label l =
    ArePushed l.above l.left l.stack.items l.labels.items
    (l.initial.stack.items ++ reverse (map (pending_at l.above l.left) l.initial.labels.items))

abbrev pub decreases-loop-label : goal.decreases-loop-label
decreases-loop-label l = vec_len l.labels
