use Rattle.hls_manager.proofs.Outcomes.{stands_so}
use Rattle.hls_test_manager.proofs.Sights.{holds}
use Rattle.hls_test_manager.proofs.showing.shown_scheduler.Goals as goal

pub shown_seat-requires : goal.shown_seat-requires
shown_seat-requires g c =
    stands_so _ c.args.tree.now _ _ c.requires (λ h tree seated listed is.
    holds h c.args.id c.loop-at.at c.child-child.result.0 c.child-child.result.1 (c.child-child.ensures h tree))
