use Rattle.hls_core.proofs.Sparing.{whole_goes_on, whole_carried, one_more}
use Rattle.hls_core.proofs.cores.Core.command.Goals as goal

pub carry_next-requires : goal.carry_next-requires
carry_next-requires g c = whole_goes_on _ c.args.self.now c.requires

pub returns-clause-is : goal.returns-clause-is
returns-clause-is g c = λ s given boxes is.
    whole_carried _ c.carry_next.result c.args.self.now _ c.carry_next.ensures.carried c.carry_next.ensures.same
    c.carry_next.ensures.is c.carry_next.ensures.unanswered s given boxes is

pub returns-clause-carried : goal.returns-clause-carried
returns-clause-carried g c = one_more _ c.carry_next.result c.args.self.now _ c.carry_next.ensures.carried
