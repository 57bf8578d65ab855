use Rattle.hls_tree.proofs.Readings.{seats_read}
use Rattle.hls_tree.proofs.tree.Tree.book.Goals as goal

pub returns-clause-alike : goal.returns-clause-alike
returns-clause-alike g c = λ h. seats_read _ c.args.self.now h c.args.id c.node.result.now c.in-Sched.station _
    c.node.ensures c.in-Sched.is c.stored_book.ensures
