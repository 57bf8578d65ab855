use Rattle.std.proofs.Common.{refl}
use Rattle.hls_manager.proofs.Finds.{no_scheduler_by_none, no_scheduler_by_thread, sort_thread}
use Rattle.hls_manager.proofs.lookups.find_scheduler.Goals as goal

pub returns-in_default-clause-refused : goal.returns-in_default-clause-refused
returns-in_default-clause-refused g c = λ h tree listed.
    no_scheduler_by_none h c.args.name.now (λ id. c.in_default.ensures.none refl h id tree)

pub returns-in-Thread-clause-refused : goal.returns-in-Thread-clause-refused
returns-in-Thread-clause-refused g c = λ h tree listed.
    no_scheduler_by_thread h listed c.in-Some.id c.args.name.now (c.in-Some.ensures.some h tree)
    (sort_thread (h.nodes c.in-Some.id) (c.in-Thread.ensures h tree))
