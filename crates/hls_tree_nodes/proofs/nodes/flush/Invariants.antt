use Rattle.hls_tree_nodes.proofs.Roused.{AreUp}
use Rattle.hls_tree_nodes.proofs.nodes.flush.Given as goal

abbrev pub invariant-loop-id : goal.invariant-loop-id
invariant-loop-id g l = AreUp (λ b. (goal.Scheduler-dyn g (b.vtable, b.value)).seen b.value) l.fn.nodes l.nodes
    l.schedulers l.id-index
