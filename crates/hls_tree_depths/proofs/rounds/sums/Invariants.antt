use Rattle.std.proofs.Common.{ℕ}
use Rattle.hls_tree_nodes.specs.Views.{shown_at}
use Rattle.hls_tree_depths.specs.Inside.Sums.{next_in, IsLocal, IsSettledTo}
use Rattle.hls_tree_depths.proofs.rounds.sums.Given as goal

abbrev pub invariant-loop-round : goal.invariant-loop-round
invariant-loop-round g l = (rank : ℕ → ℕ)
    → IsLocal (next_in l.question (shown_at
    (λ b. (goal.Scheduler-dyn g (b.vtable, b.value)).seen b.value) l.nodes)) l.schedulers rank
    → IsSettledTo (next_in l.question (shown_at
    (λ b. (goal.Scheduler-dyn g (b.vtable, b.value)).seen b.value) l.nodes)) l.schedulers rank
    l._round 0 l.sums
