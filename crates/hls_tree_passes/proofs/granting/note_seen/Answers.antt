use Rattle.std.proofs.Common.{◌≡◌}
use Rattle.hls_tree_nodes.specs.Views.{choice_at}
use Rattle.hls_tree_nodes.proofs.Snapshots.{one_of}
use Rattle.hls_tree_nodes.proofs.Walks.{choice_others}
use Rattle.hls_tree_passes.proofs.granting.note_seen.Goals as goal

pub returns-in-At-clause-choices : goal.returns-in-At-clause-choices
returns-in-At-clause-choices g c =
    one_of (λ k. choice_at (λ b. (goal.Scheduler-dyn g (b.vtable, b.value)).choice b.value) c.note_on.new.nodes k
    ≡ choice_at (λ b. (goal.Scheduler-dyn g (b.vtable, b.value)).choice b.value) c.args.nodes.now k)
    c.in-At.scheduler c.note_on.ensures.choice
    (choice_others _ c.args.nodes.now c.note_on.new.nodes c.in-At.scheduler c.note_on.ensures.others)
