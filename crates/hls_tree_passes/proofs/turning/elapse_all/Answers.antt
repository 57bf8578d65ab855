use Rattle.std.proofs.Common.{refl, sym, ap, ◌+◌, ◌∙◌}
use Rattle.hls_tree_passes.proofs.Elapses.{each_shown, each_late, quiet_later}
use Rattle.hls_tree_passes.proofs.turning.elapse_all.Goals as goal

pub returns : goal.returns
returns g c =
    let clock = ap (λ n. n + c.args.ticks) c.elapse_each.ensures.same.tick in
    record {
      elapsed = each_shown (λ b. (goal.Scheduler-dyn g (b.vtable, b.value)).seen b.value)
          (λ b. (goal.Scheduler-dyn g (b.vtable, b.value)).choice b.value) c.args.ticks c.args.nodes.now
          c.elapse_each.new.nodes (record c.elapse_each.new.nodes {
            tick = c.elapse_each.new.nodes.tick + c.args.ticks;
          }) refl
          c.elapse_each.ensures.same.behind clock c.elapse_each.ensures.each;
      late = each_late (λ b. (goal.Scheduler-dyn g (b.vtable, b.value)).seen b.value)
          (λ b. (goal.Scheduler-dyn g (b.vtable, b.value)).choice b.value) c.args.ticks c.args.nodes.now
          c.elapse_each.new.nodes (record c.elapse_each.new.nodes {
            tick = c.elapse_each.new.nodes.tick + c.args.ticks;
          }) refl
          c.elapse_each.ensures.same.behind clock
          (λ off. c.elapse_each.ensures.off (sym c.elapse_each.ensures.same.behind ∙ off))
          c.elapse_each.ensures.each;
      quiet = quiet_later (λ b. (goal.Scheduler-dyn g (b.vtable, b.value)).seen b.value) _ c.args.known.now
          c.elapse_each.new.nodes (record c.elapse_each.new.nodes {
            tick = c.elapse_each.new.nodes.tick + c.args.ticks;
          }) refl refl refl c.elapse_each.ensures.quiet;
      clock = clock;
    }
