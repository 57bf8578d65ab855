use Rattle.hls_tree_nodes.specs.Views.{shown_at, choice_at}
use Rattle.hls_tree_passes.proofs.Standing.{AllStand}
use Rattle.hls_tree_passes.proofs.turning.stands_within.Given as goal

abbrev pub invariant-loop-at : goal.invariant-loop-at
invariant-loop-at g l = AllStand
    (shown_at (λ b. (goal.Scheduler-dyn g (b.vtable, b.value)).seen b.value) l.nodes)
    (choice_at (λ b. (goal.Scheduler-dyn g (b.vtable, b.value)).choice b.value) l.nodes) l.schedulers l.most l.at
    l.least
