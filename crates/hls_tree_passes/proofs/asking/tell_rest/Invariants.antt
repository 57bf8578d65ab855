use Rattle.std.proofs.Common.{ℕ, ◌≤◌}
use Rattle.hls_tree_nodes.specs.Views.{shown_at}
use Rattle.hls_tree_nodes.specs.TreeOf.{IsTelling, IsAlike, AllUpTo}
use Rattle.hls_tree_nodes.specs.Known.{HaveTold}
use Rattle.hls_tree_nodes.specs.Late.{StaysLate}
use Rattle.hls_tree_passes.proofs.asking.tell_rest.Given as goal

abbrev pub invariant-loop-at : goal.invariant-loop-at
invariant-loop-at g l = record {
  telling : IsTelling
      (shown_at (λ b. (goal.Scheduler-dyn g (b.vtable, b.value)).seen b.value) l.nodes)
      (AllUpTo (shown_at (λ b. (goal.Scheduler-dyn g (b.vtable, b.value)).seen b.value) l.nodes)
      l.level l.schedulers l.at);
  alike : IsAlike
      (shown_at (λ b. (goal.Scheduler-dyn g (b.vtable, b.value)).seen b.value) l.fn.nodes)
      (shown_at (λ b. (goal.Scheduler-dyn g (b.vtable, b.value)).seen b.value) l.nodes);
  far : 64 ≤ l.at;
  voices : (voices : ℕ) → HaveTold
      (shown_at (λ b. (goal.Scheduler-dyn g (b.vtable, b.value)).seen b.value) l.fn.nodes) l.schedulers voices
      → HaveTold
      (shown_at (λ b. (goal.Scheduler-dyn g (b.vtable, b.value)).seen b.value) l.nodes) l.schedulers voices;
  late : StaysLate (λ b. (goal.Scheduler-dyn g (b.vtable, b.value)).seen b.value) l.fn.nodes l.nodes;
}
