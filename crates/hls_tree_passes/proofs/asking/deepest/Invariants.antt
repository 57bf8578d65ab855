use Rattle.hls_tree_nodes.specs.Views.{shown_at}
use Rattle.hls_tree_passes.proofs.Tells.{IsMost}
use Rattle.hls_tree_passes.proofs.asking.deepest.Given as goal

abbrev pub invariant-loop-at : goal.invariant-loop-at
invariant-loop-at g l = IsMost
    (shown_at (λ b. (goal.Scheduler-dyn g (b.vtable, b.value)).seen b.value) l.nodes) l.keys l.at l.deep
