use Rattle.hls_tree_nodes.proofs.Idle.{IsLeaping}
use Rattle.hls_tree_nodes.proofs.station.leap_idle.Given as goal

abbrev pub invariant-loop-left : goal.invariant-loop-left
invariant-loop-left g l = IsLeaping
    ((goal.Scheduler-dyn g (l.fn.unit.vtable, l.fn.unit.value)).seen l.fn.unit.value)
    ((goal.Scheduler-dyn g (l.unit.vtable, l.unit.value)).seen l.unit.value) l.ticks l.left

abbrev pub decreases-loop-left : goal.decreases-loop-left
decreases-loop-left g l = l.left
