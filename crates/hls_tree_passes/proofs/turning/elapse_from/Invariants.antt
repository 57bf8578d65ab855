use Rattle.hls_tree_passes.proofs.Elapses.{IsOver}
use Rattle.hls_tree_passes.proofs.turning.elapse_from.Given as goal

abbrev pub invariant-loop-at : goal.invariant-loop-at
invariant-loop-at g l = IsOver (λ b. (goal.Scheduler-dyn g (b.vtable, b.value)).seen b.value)
    (λ b. (goal.Scheduler-dyn g (b.vtable, b.value)).choice b.value) l.ticks l.from l.at l.schedulers l.fn.nodes l.nodes
