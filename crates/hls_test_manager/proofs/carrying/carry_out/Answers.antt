use Rattle.hls_manager.proofs.Outcomes.{stands_so}
use Rattle.hls_core.proofs.Carried.{at_depth}
use Rattle.hls_test_manager.proofs.Standings.{has_room, all_next, one_next, as_before}
use Rattle.hls_test_manager.proofs.carrying.carry_out.Goals as goal

pub admit-requires-clause-stands : goal.admit-requires-clause-stands
admit-requires-clause-stands g c =
    stands_so _ c.args.tree.now _ _ c.requires.stands (λ h tree seated listed is.
    has_room h c.args.left c.requires.some is)

pub withdraw-requires-clause-stands : goal.withdraw-requires-clause-stands
withdraw-requires-clause-stands g c =
    stands_so _ c.args.tree.now _ _ c.requires.stands (λ h tree seated listed is.
    has_room h c.args.left c.requires.some is)

pub shift-requires-clause-stands : goal.shift-requires-clause-stands
shift-requires-clause-stands g c =
    stands_so _ c.args.tree.now _ _ c.requires.stands (λ h tree seated listed is.
    has_room h c.args.left c.requires.some is)

pub returns-in-Load-clause-carried : goal.returns-in-Load-clause-carried
returns-in-Load-clause-carried g c =
    all_next _ c.args.tree.now c.admit.new.tree c.args.kit.now _ _ c.args.left c.args.command.now c.requires.some
    c.requires.few c.requires.stands c.admit.result c.admit.ensures.carried

pub returns-in-Load-clause-unchanged : goal.returns-in-Load-clause-unchanged
returns-in-Load-clause-unchanged g c =
    as_before _ c.args.tree.now c.admit.new.tree c.args.left c.admit.result c.requires.stands
    c.admit.ensures.unchanged

pub returns-in-End-clause-carried : goal.returns-in-End-clause-carried
returns-in-End-clause-carried g c =
    one_next _ c.args.tree.now c.withdraw.new.tree c.args.kit.now 0 _ c.args.left c.args.command.now c.requires.some
    c.requires.few c.requires.stands c.withdraw.result c.withdraw.ensures.carried

pub returns-in-Move-clause-carried : goal.returns-in-Move-clause-carried
returns-in-Move-clause-carried g c =
    all_next _ c.args.tree.now c.shift.new.tree c.args.kit.now _ _ c.args.left c.args.command.now c.requires.some
    c.requires.few c.requires.stands c.shift.result
    (at_depth _ c.args.tree.now c.shift.new.tree c.args.kit.now _ 64 c.args.command.now c.shift.result
    c.shift.ensures.carried)

pub returns-in-Move-clause-unchanged : goal.returns-in-Move-clause-unchanged
returns-in-Move-clause-unchanged g c =
    as_before _ c.args.tree.now c.shift.new.tree c.args.left c.shift.result c.requires.stands
    c.shift.ensures.unchanged
