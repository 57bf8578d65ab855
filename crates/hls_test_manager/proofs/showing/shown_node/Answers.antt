use Rattle.hls_manager.proofs.Outcomes.{stands_so}
use Rattle.hls_test_manager.proofs.Sights.{loaded}
use Rattle.hls_test_manager.proofs.showing.shown_node.Goals as goal

pub shown_scheduler-requires : goal.shown_scheduler-requires
shown_scheduler-requires g c =
    stands_so _ c.args.tree.now _ _ c.requires (λ h tree seated listed is.
    loaded (h.nodes c.args.id) _ (c.in-Sched.ensures h tree))
