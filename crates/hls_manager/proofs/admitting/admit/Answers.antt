use Rattle.std.proofs.Common.{refl}
use Rattle.std.proofs.lemmas.Result.{IfOk-weaker}
use Rattle.hls_manager.specs.Outcomes.{moment}
use Rattle.hls_manager.proofs.admitting.admit.Goals as goal

pub returns-in-Thread-clause-carried : goal.returns-in-Thread-clause-carried
returns-in-Thread-clause-carried g c = rw c.in-Thread.is
    (IfOk-weaker c.admit_thread.result _ _
    (λ answer carried h tree is. carried (moment h c.args.kit.now c.args.depth) c.args.commands refl tree is)
    c.admit_thread.ensures.carried)

pub returns-in-Load-clause-carried : goal.returns-in-Load-clause-carried
returns-in-Load-clause-carried g c = rw c.in-Load.is (rw c.items.ensures at c.load.ensures.carried)

pub returns-in-Load-clause-boxes : goal.returns-in-Load-clause-boxes
returns-in-Load-clause-boxes g c = rw c.in-Load.is (rw c.items.ensures at c.load.ensures.boxes)
