use Rattle.hls_tree_passes.proofs.Quiet.{IsHearing}
use Rattle.hls_tree_passes.proofs.asking.tell_news.Given as goal

abbrev pub invariant-loop-left : goal.invariant-loop-left
invariant-loop-left g l = IsHearing (λ b. (goal.Scheduler-dyn g (b.vtable, b.value)).seen b.value)
    l.fn.nodes l.nodes l.schedulers l.places l.left l.told

abbrev pub decreases-loop-left : goal.decreases-loop-left
decreases-loop-left g l = l.left
