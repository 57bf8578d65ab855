use Rattle.hls_tree_nodes.specs.Views.{shown_at, choice_at, place_view}
use Rattle.hls_tree_nodes.specs.Late.{StaysLate}
use Rattle.hls_tree_passes.proofs.Leads.{Going}
use Rattle.hls_tree_passes.proofs.granting.grant_path.Given as goal

abbrev pub invariant-loop-step : goal.invariant-loop-step
invariant-loop-step g l =
    Going
    (shown_at (λ b. (goal.Scheduler-dyn g (b.vtable, b.value)).seen b.value) l.fn.nodes)
    (shown_at (λ b. (goal.Scheduler-dyn g (b.vtable, b.value)).seen b.value) l.nodes)
    (choice_at (λ b. (goal.Scheduler-dyn g (b.vtable, b.value)).choice b.value) l.nodes)
    (place_view l.place) l.route l.step
    × StaysLate (λ b. (goal.Scheduler-dyn g (b.vtable, b.value)).seen b.value) l.fn.nodes l.nodes
