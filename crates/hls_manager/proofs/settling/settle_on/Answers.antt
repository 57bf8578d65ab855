use Rattle.hls_manager.proofs.Finds.{settled_none, sort_thread}
use Rattle.hls_manager.proofs.Outcomes.{reached_seated}
use Rattle.hls_manager.proofs.ThreadMoves.{nothing_due}
use Rattle.hls_manager.proofs.settling.settle_on.Goals as goal

pub returns-in_ok-with_capacity-in-Thread : goal.returns-in_ok-with_capacity-in-Thread
returns-in_ok-with_capacity-in-Thread g c = λ h tree is.
    rw (c.of.ensures, c.in_ok-with_capacity-in-Thread.ensures.items)
    (settled_none c.args.depth _
    (nothing_due h (reached_seated h is) c.args.id (sort_thread (h.nodes c.args.id) (c.in-Thread.ensures h tree))
    c.args.seat.now.kept))
