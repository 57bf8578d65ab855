use Rattle.std.proofs.Common.{refl, sym}
use Rattle.hls_tree_passes.proofs.Grants.{written, stays_same}
use Rattle.hls_tree_passes.proofs.granting.note_on.Goals as goal

pub returns-in-Sched-clause-late : goal.returns-in-Sched-clause-late
returns-in-Sched-clause-late g c = stays_same (λ b. (goal.Scheduler-dyn g (b.vtable, b.value)).seen b.value)
    c.args.nodes.now _ refl refl refl
    (written (λ b. (goal.Scheduler-dyn g (b.vtable, b.value)).seen b.value) c.args.nodes.now.slab c.args.key
    c.in-Some.node.now c.in-Sched.station c.note.new.self (sym c.in-Some.ensures.value) c.in-Sched.is
    c.note.ensures.same) c.requires.late
