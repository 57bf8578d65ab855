use Rattle.hls_manager.proofs.Outcomes.{stands_so}
use Rattle.hls_test_manager.proofs.Sights.{named}
use Rattle.hls_test_manager.proofs.showing.shown_name.Goals as goal

pub shown_node-requires : goal.shown_node-requires
shown_node-requires g c =
    stands_so _ c.args.tree.now _ _ c.requires (λ h tree seated listed is.
    named (h.nodes c.in-Some-find.id) _ (c.in-Some-find.ensures.some h tree))
