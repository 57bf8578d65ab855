use Rattle.std.proofs.Common.{◌+◌, ◌-◌}
use Rattle.hls_tree_nodes.specs.Views.{shown_at}
use Rattle.hls_tree_nodes.specs.TreeOf.{IsTelling, IsAlike, AllFrom}
use Rattle.hls_tree_nodes.specs.Known.{HaveTold}
use Rattle.hls_tree_nodes.specs.Late.{StaysLate, IsQuiet}
use Rattle.hls_tree_passes.proofs.asking.tell_schedulers_news.Given as goal

abbrev pub invariant-loop-step : goal.invariant-loop-step
invariant-loop-step g l = record {
  telling : IsTelling (shown_at (λ b. (goal.Scheduler-dyn g (b.vtable, b.value)).seen b.value) l.nodes)
      (AllFrom (shown_at (λ b. (goal.Scheduler-dyn g (b.vtable, b.value)).seen b.value) l.nodes)
      ((l.deep + 2) - l.step));
  alike : IsAlike (shown_at (λ b. (goal.Scheduler-dyn g (b.vtable, b.value)).seen b.value) l.fn.nodes)
      (shown_at (λ b. (goal.Scheduler-dyn g (b.vtable, b.value)).seen b.value) l.nodes);
  voices : HaveTold (shown_at (λ b. (goal.Scheduler-dyn g (b.vtable, b.value)).seen b.value) l.nodes)
      l.schedulers l.voices;
  late : StaysLate (λ b. (goal.Scheduler-dyn g (b.vtable, b.value)).seen b.value) l.fn.nodes l.nodes;
  quiet : IsQuiet (λ b. (goal.Scheduler-dyn g (b.vtable, b.value)).seen b.value) l.nodes l.schedulers l.voices;
}
