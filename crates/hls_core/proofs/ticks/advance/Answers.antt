use Rattle.std.proofs.Common.{arith}
use Rattle.hls_core.proofs.Elapsing.{after_one}
use Rattle.hls_core.proofs.ticks.advance.Goals as goal

pub returns-then-ticks-eq1-clause-elapsed : goal.returns-then-ticks-eq1-clause-elapsed
returns-then-ticks-eq1-clause-elapsed g c = λ h asking slots path t p may.
    after_one _ (λ z. (goal.Scheduler-dyn g z).choice z.1) c.turn.new.self h asking slots path c.args.ticks
    c.if-ticks-eq1.true p.can (c.turn.ensures.elapsed h asking slots path t p)

pub leap-requires-clause-law : goal.leap-requires-clause-law
leap-requires-clause-law g c =
    let some = c.requires.some in
    let other = c.if-ticks-eq1.false in c.requires.law (omega (arith, some, other))
