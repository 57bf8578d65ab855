use Rattle.hls_tree_nodes.specs.Views.{shown_at}
use Rattle.hls_tree_nodes.specs.Late.{StaysLate}
use Rattle.hls_tree_passes.proofs.Tells.{IsAtPort}
use Rattle.hls_tree_passes.proofs.asking.tell_ports.Given as goal

abbrev pub invariant-loop-port : goal.invariant-loop-port
invariant-loop-port g l = record {
  at : IsAtPort
      (shown_at (λ b. (goal.Scheduler-dyn g (b.vtable, b.value)).seen b.value) l.fn.nodes)
      (shown_at (λ b. (goal.Scheduler-dyn g (b.vtable, b.value)).seen b.value) l.nodes) l.key l.port l.asks;
  late : StaysLate (λ b. (goal.Scheduler-dyn g (b.vtable, b.value)).seen b.value) l.fn.nodes l.nodes;
}
