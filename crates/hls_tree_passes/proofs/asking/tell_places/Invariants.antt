use Rattle.hls_tree_nodes.specs.Views.{shown_at}
use Rattle.hls_tree_nodes.specs.Late.{StaysLate}
use Rattle.hls_tree_passes.proofs.Levels.{IsAmong}
use Rattle.hls_tree_passes.proofs.asking.tell_places.Given as goal

abbrev pub invariant-loop-left : goal.invariant-loop-left
invariant-loop-left g l = record {
  among : IsAmong
      (shown_at (λ b. (goal.Scheduler-dyn g (b.vtable, b.value)).seen b.value) l.fn.nodes)
      (shown_at (λ b. (goal.Scheduler-dyn g (b.vtable, b.value)).seen b.value) l.nodes) l.schedulers l.places l.left;
  late : StaysLate (λ b. (goal.Scheduler-dyn g (b.vtable, b.value)).seen b.value) l.fn.nodes l.nodes;
}

abbrev pub decreases-loop-left : goal.decreases-loop-left
decreases-loop-left g l = l.left
