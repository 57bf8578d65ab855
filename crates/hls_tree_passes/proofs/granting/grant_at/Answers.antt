use Rattle.std.proofs.Common.{refl}
use Rattle.hls_tree_passes.proofs.Grants.{stays_granted}
use Rattle.hls_tree_passes.proofs.granting.grant_at.Goals as goal

pub returns-clause-late : goal.returns-clause-late
returns-clause-late g c = stays_granted (λ b. (goal.Scheduler-dyn g (b.vtable, b.value)).seen b.value)
    c.args.nodes.now c.rouse.new.nodes (record c.rouse.new.nodes { slab = c.grant_on.new.slab }) c.args.key
    c.args.port c.rouse.ensures.late c.rouse.ensures.stored refl refl refl c.grant_on.ensures.granted
    c.grant_on.ensures.others
