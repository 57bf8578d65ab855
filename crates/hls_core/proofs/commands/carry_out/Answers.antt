use Rattle.hls_manager.specs.Outcomes.{moment}
use Rattle.hls_core.proofs.Carried.{at_depth}
use Rattle.hls_core.proofs.commands.carry_out.Goals as goal

pub returns-in-Move-clause-carried : goal.returns-in-Move-clause-carried
returns-in-Move-clause-carried g c =
    at_depth _ c.args.tree.now c.shift.new.tree c.args.kit.now c.args.depth c.args.commands c.args.command.now
    c.shift.result c.shift.ensures.carried

pub returns-in_default-clause-carried : goal.returns-in_default-clause-carried
returns-in_default-clause-carried g c = λ h tree reached.
    c.withdraw.ensures.carried (moment h c.args.kit.now c.args.depth) c.args.commands tree reached
