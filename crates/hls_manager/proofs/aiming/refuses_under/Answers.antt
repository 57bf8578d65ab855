use Rattle.std.proofs.Common.{sym, ◌∙◌}
use Rattle.hls_manager.proofs.Mistakes.{to_thread, join_under}
use Rattle.hls_manager.proofs.aiming.refuses_under.Goals as goal

pub returns-then-is_join-clause-some : goal.returns-then-is_join-clause-some
returns-then-is_join-clause-some g c = λ m perch terms at tree listed.
    join_under m c.args.name.now perch listed c.args.id (c.requires.named m.hierarchy tree) c.args.sched.now terms at
    c.args.parent (c.requires.parent m.hierarchy tree) c.sort.result (c.sort.ensures m.hierarchy tree)
    (sym c.is_join.ensures ∙ c.if-is_join.true)

pub returns-in-Thread-clause-some : goal.returns-in-Thread-clause-some
returns-in-Thread-clause-some g c = λ m perch terms at tree listed.
    to_thread m c.args.name.now perch listed c.args.id (c.requires.named m.hierarchy tree) c.args.sched.now terms at
    c.args.parent (c.requires.parent m.hierarchy tree) c.sort.result (c.sort.ensures m.hierarchy tree)
    (sym c.is_join.ensures ∙ c.if-is_join.false) (c.in-Thread.ensures m.hierarchy tree)
