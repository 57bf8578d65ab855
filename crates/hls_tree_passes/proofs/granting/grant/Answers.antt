use Rattle.hls_tree_nodes.specs.Views.{shown_at, choice_at}
use Rattle.hls_tree_passes.proofs.Routes.{along_ran}
use Rattle.hls_tree_passes.proofs.granting.grant.Goals as goal

pub returns-clause-along : goal.returns-clause-along
returns-clause-along g c = along_ran
    (shown_at (λ b. (goal.Scheduler-dyn g (b.vtable, b.value)).seen b.value) c.args.nodes.now)
    (shown_at (λ b. (goal.Scheduler-dyn g (b.vtable, b.value)).seen b.value) c.grant_root.new.nodes)
    (choice_at (λ b. (goal.Scheduler-dyn g (b.vtable, b.value)).choice b.value) c.grant_root.new.nodes)
    c.args.root _ c.requires.telling.free c.grant_root.ensures.ran
