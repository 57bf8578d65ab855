use Rattle.std.proofs.Common.{rules, sym}
use Rattle.hls_tree_passes.proofs.Elapses.{lagged, rewritten}
use Rattle.hls_tree_passes.proofs.turning.elapse_at.Goals as goal

pub returns-else-is_none-clause-here : goal.returns-else-is_none-clause-here
returns-else-is_none-clause-here g c =
    lagged _ _ _ _ c.in-Sched.station.lag _ _ c.if-not-behind.false c.requires.some c.requires.lags (search rules)
    c.if-is_none.ensures c.requires.room
    (rewritten (λ b. (goal.Scheduler-dyn g (b.vtable, b.value)).seen b.value) c.args.nodes.now.slab c.args.key
    c.in-Some.node.now c.in-Sched.station (sym c.in-Some.ensures.value) c.in-Sched.is)
