use Rattle.std.proofs.Common.{sym}
use Rattle.hls_tree_passes.proofs.Elapses.{node_law}
use Rattle.hls_tree_passes.proofs.turning.stands_at.Goals as goal

pub returns-in-Sched-clause-law : goal.returns-in-Sched-clause-law
returns-in-Sched-clause-law g c =
    node_law (λ b. (goal.Scheduler-dyn g (b.vtable, b.value)).seen b.value)
    (λ b. (goal.Scheduler-dyn g (b.vtable, b.value)).choice b.value) c.stands_late.result c.args.nodes.now c.args.key
    c.in-Some.node.now c.in-Sched.station c.requires.late (sym c.in-Some.ensures) c.in-Sched.is
    c.stands_late.ensures.flat_law c.stands_late.ensures.law
