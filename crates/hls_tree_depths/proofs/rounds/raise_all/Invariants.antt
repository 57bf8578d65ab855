use Rattle.std.proofs.Common.{◌≡◌, ◌<◌, ℕ, false, length}
use Rattle.hls_tree_nodes.specs.Views.{shown_at}
use Rattle.hls_tree_depths.specs.Inside.Sums.{next_in, IsLocal, IsRight, IsSettledTo}
use Rattle.hls_tree_depths.proofs.rounds.raise_all.Given as goal

abbrev pub invariant-loop-at : goal.invariant-loop-at
invariant-loop-at g l = record {
  higher : (rank : ℕ → ℕ) (now : ℕ)
      → IsLocal (next_in l.question (shown_at
      (λ b. (goal.Scheduler-dyn g (b.vtable, b.value)).seen b.value) l.nodes)) l.schedulers rank
      → IsSettledTo (next_in l.question (shown_at
      (λ b. (goal.Scheduler-dyn g (b.vtable, b.value)).seen b.value) l.nodes)) l.schedulers rank
      now 0 l.fn.sums
      → IsSettledTo (next_in l.question (shown_at
      (λ b. (goal.Scheduler-dyn g (b.vtable, b.value)).seen b.value) l.nodes)) l.schedulers rank
      now l.at l.sums;
  long : length l.sums ≡ 64;
  done : l.changed ≡ false → (at : ℕ) → at < l.at
      → IsRight (next_in l.question (shown_at
      (λ b. (goal.Scheduler-dyn g (b.vtable, b.value)).seen b.value) l.nodes)) l.schedulers l.sums at;
}
