use Rattle.hls_manager.proofs.withdrawals.withdraw.Goals as goal

pub returns-in-Ok-clause-carried : goal.returns-in-Ok-clause-carried
returns-in-Ok-clause-carried g c = rw (c.of.ensures, c.new.ensures.items) c.in-Ok.ensures.done

pub returns-in-Ok-clause-formed : goal.returns-in-Ok-clause-formed
returns-in-Ok-clause-formed g c = rw (c.of.ensures, c.new.ensures.items) tt
