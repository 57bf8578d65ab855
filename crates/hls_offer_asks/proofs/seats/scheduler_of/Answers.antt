use Rattle.std.proofs.Common.{refl}
use Rattle.hls_offer_asks.proofs.Named.{nobody_scheduler, thread_scheduler}
use Rattle.hls_offer_asks.proofs.seats.scheduler_of.Goals as goal

pub returns-in_default-clause-none : goal.returns-in_default-clause-none
returns-in_default-clause-none g c none = λ h tree listed.
    nobody_scheduler h c.args.name.now (λ id. c.in_default.ensures.none refl h id tree)

pub returns-in-Thread-clause-none : goal.returns-in-Thread-clause-none
returns-in-Thread-clause-none g c none = λ h tree listed.
    thread_scheduler h listed c.in-Some.id c.args.name.now (c.in-Some.ensures.some h tree) (c.in-Thread.ensures h tree)
