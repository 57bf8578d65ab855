use Rattle.std.proofs.Common.{refl}
use Rattle.hls_offer_asks.proofs.Named.{is_none, is_one, nobody_thread}
use Rattle.hls_offer_asks.proofs.wish.is_thread.Goals as goal

pub returns-in_default : goal.returns-in_default
returns-in_default g c = λ h tree listed.
    nobody_thread h c.args.name.now (λ id. c.in_default.ensures.none refl h id tree)

pub returns-in-Thread : goal.returns-in-Thread
returns-in-Thread g c = λ h tree listed.
    is_one h listed c.in-Some.id c.args.name.now (c.in-Some.ensures.some h tree) (c.in-Thread.ensures h tree)

pub returns-in-Sched : goal.returns-in-Sched
returns-in-Sched g c = λ h tree listed.
    is_none h listed c.in-Some.id c.args.name.now (c.in-Some.ensures.some h tree) _ (c.in-Sched.ensures h tree)
