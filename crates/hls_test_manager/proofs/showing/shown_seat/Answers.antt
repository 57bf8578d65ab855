use Rattle.hls_manager.proofs.Outcomes.{stands_so}
use Rattle.hls_test_manager.proofs.Sights.{sits}
use Rattle.hls_test_manager.proofs.showing.shown_seat.Goals as goal

pub name-name-requires : goal.name-name-requires
name-name-requires g c =
    stands_so _ c.args.tree.now _ _ c.requires (λ h tree seated listed is. sits h c.args.id c.args.port is)
