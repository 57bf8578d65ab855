use Rattle.std.proofs.Common.{refl}
use Rattle.hls_manager.proofs.Finds.{thread_unknown, thread_wrong, thread_done, sort_thread, sort_sched}
use Rattle.hls_manager.proofs.lookups.find_thread.Goals as goal

pub returns-in_default-clause-refused : goal.returns-in_default-clause-refused
returns-in_default-clause-refused g c = λ m command tree listed of.
    thread_unknown m command c.args.name.now of (λ id. c.in_default.ensures.none refl m.hierarchy id tree)

pub returns-in-Thread-clause-done : goal.returns-in-Thread-clause-done
returns-in-Thread-clause-done g c = λ m command tree listed of.
    thread_done m command c.args.name.now of listed c.in-Some.id (c.in-Some.ensures.some m.hierarchy tree)
    (sort_thread (m.hierarchy.nodes c.in-Some.id) (c.in-Thread.ensures m.hierarchy tree))

pub returns-in-Sched-clause-refused : goal.returns-in-Sched-clause-refused
returns-in-Sched-clause-refused g c = λ m command tree listed of.
    thread_wrong m command c.args.name.now of listed c.in-Some.id (c.in-Some.ensures.some m.hierarchy tree)
    (sort_sched (m.hierarchy.nodes c.in-Some.id) _ (c.in-Sched.ensures m.hierarchy tree))
