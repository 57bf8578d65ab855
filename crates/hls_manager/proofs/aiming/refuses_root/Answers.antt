use Rattle.std.proofs.Common.{sym, ◌∙◌, subst}
use Rattle.hls_tree.specs.Reads.{IsSort}
use Rattle.hls_tree.specs.declared.seat.Sort.{Sort}
use Rattle.hls_manager.proofs.Mistakes.{thread_to_cpu, join_to_cpu, sort_root}
use Rattle.hls_manager.proofs.aiming.refuses_root.Goals as goal

pub returns-then-is_join-clause-some : goal.returns-then-is_join-clause-some
returns-then-is_join-clause-some g c = λ m perch at tree listed.
    join_to_cpu m c.args.name.now perch listed c.args.id (c.requires.named m.hierarchy tree) at c.sort-sort.result
    (c.sort-sort.ensures m.hierarchy tree) (sym c.is_join.ensures ∙ c.if-is_join.true)

pub returns-in-Thread-clause-some : goal.returns-in-Thread-clause-some
returns-in-Thread-clause-some g c = λ m perch at tree listed.
    thread_to_cpu m c.args.name.now perch listed c.args.id (c.requires.named m.hierarchy tree) at
    (subst (λ (s : Sort). IsSort (m.hierarchy.nodes c.args.id) s) c.in-Thread.is (c.sort-sort.ensures m.hierarchy tree))

pub returns-in-Sched-clause-none : goal.returns-in-Sched-clause-none
returns-in-Sched-clause-none g c = λ none h tree.
    sort_root (h.nodes c.args.id) c.in-Sched.field-0 c.sort-sort.result (c.sort-sort.ensures h tree) c.in-Sched.is
    (sym c.is_join.ensures ∙ c.if-is_join.false)
