use Rattle.hls_kinds.specs.Stands.{always}
use Rattle.hls_tree_nodes.specs.Views.{shown_at, choice_at}
use Rattle.hls_tree_passes.proofs.Standing.{AllStand}
use Rattle.hls_tree_passes.proofs.turning.stands_all.Given as goal

abbrev pub invariant-loop-id : goal.invariant-loop-id
invariant-loop-id g l = AllStand
    (shown_at (λ b. (goal.Scheduler-dyn g (b.vtable, b.value)).seen b.value) l.nodes)
    (choice_at (λ b. (goal.Scheduler-dyn g (b.vtable, b.value)).choice b.value) l.nodes) l.schedulers always l.id-index
    l.least
