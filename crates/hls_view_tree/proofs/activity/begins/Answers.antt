use Rattle.hls_view_tree.proofs.Ways.{left_short}
use Rattle.hls_view_tree.proofs.activity.begins.Goals as goal

pub returns-in-None : goal.returns-in-None
returns-in-None c =
    left_short c.args.names.now c.args.way.now c.loop-at.at c.loop-at-test.true c.in-None.ensures.lookup.3
    c.loop-at.invariant
