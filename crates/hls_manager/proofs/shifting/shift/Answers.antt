use Rattle.hls_manager.proofs.shifting.shift.Goals as goal

pub returns-clause-carried : goal.returns-clause-carried
returns-clause-carried g c = rw c.in-Move.is c.shift_to.ensures.carried
