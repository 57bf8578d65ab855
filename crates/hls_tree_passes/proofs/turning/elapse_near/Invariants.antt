use Rattle.hls_tree_passes.proofs.Elapses.{IsNear}
use Rattle.hls_tree_passes.proofs.turning.elapse_near.Given as goal

abbrev pub invariant-loop-left : goal.invariant-loop-left
invariant-loop-left g l = IsNear (λ b. (goal.Scheduler-dyn g (b.vtable, b.value)).seen b.value)
    (λ b. (goal.Scheduler-dyn g (b.vtable, b.value)).choice b.value) l.ticks l.schedulers l.known.voices l.left
    l.fn.nodes l.nodes

abbrev pub decreases-loop-left : goal.decreases-loop-left
decreases-loop-left g l = l.left
