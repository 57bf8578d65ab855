use Rattle.std.proofs.Common.{refl, ap}
use Rattle.hls_tree_nodes.specs.Views.{shown_opt}
use Rattle.hls_tree_nodes.proofs.Late.{stays_then}
use Rattle.hls_tree_passes.proofs.Tellings.{told_stays}
use Rattle.hls_tree_passes.proofs.asking.tell_at.Goals as goal

pub returns-clause-late : goal.returns-clause-late
returns-clause-late g c =
    let told = told_stays (λ b. (goal.Scheduler-dyn g (b.vtable, b.value)).seen b.value) c.rouse.new.nodes
    (record {
      slab = c.tell_on.new.slab;
      behind = c.rouse.new.nodes.behind;
      tick = c.rouse.new.nodes.tick;
      quiet = c.rouse.new.nodes.quiet;
    })
    c.args.key c.args.slot c.args.asks c.rouse.ensures.late.late refl refl refl
    (λ k ne. ap (shown_opt (λ b. (goal.Scheduler-dyn g (b.vtable, b.value)).seen b.value))
    (c.tell_on.ensures.others k ne))
    c.rouse.ensures.stored c.tell_on.ensures.here in
    stays_then (λ b. (goal.Scheduler-dyn g (b.vtable, b.value)).seen b.value) _ _ _ c.rouse.ensures.late told
