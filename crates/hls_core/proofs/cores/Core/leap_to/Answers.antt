use Rattle.std.proofs.Common.{arith}
use Rattle.hls_core.proofs.Ended.{core_leap}
use Rattle.hls_core.proofs.Sparing.{whole_goes_on, whole_stays}
use Rattle.hls_core.proofs.cores.Core.leap_to.Goals as goal

pub pass_ticks-requires-clause-may : goal.pass_ticks-requires-clause-may
pass_ticks-requires-clause-may g c = whole_goes_on _ c.args.self.now c.requires.runs

pub returns-clause-is : goal.returns-clause-is
returns-clause-is g c = λ s given boxes is.
    whole_stays _ c.args.self.now _ s given boxes c.pass_ticks.ensures.is c.pass_ticks.ensures.answers is

pub pass_ticks-requires-clause-early : goal.pass_ticks-requires-clause-early
pass_ticks-requires-clause-early g c =
    let within = c.ticks_ahead-most.ensures.within in let end = c.requires.within in omega (arith, within, end)

pub returns-clause-leap : goal.returns-clause-leap
returns-clause-leap g c = λ s given boxes is.
    core_leap _ c.args.self.now s given boxes c.args.end c.ticks_ahead-most.result c.pass_ticks.result is
    c.ticks_ahead-most.ensures.none_due c.ticks_ahead-most.ensures.within c.requires.within
    c.ticks_ahead-most.ensures.next c.pass_ticks.ensures.most c.pass_ticks.ensures.stretch
