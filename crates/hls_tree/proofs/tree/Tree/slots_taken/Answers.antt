use Rattle.hls_tree.proofs.Readings.{slots_read}
use Rattle.hls_tree.proofs.tree.Tree.slots_taken.Goals as goal

pub returns : goal.returns
returns g c = λ h. slots_read _ c.args.self.now h c.args.id c.node.result.now c.in-Sched.station _
    c.node.ensures c.in-Sched.is c.slots_of.ensures
