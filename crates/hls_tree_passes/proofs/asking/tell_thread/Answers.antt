use Rattle.std.proofs.Common.{refl, sym, ◌∙◌}
use Rattle.hls_tree_nodes.proofs.Late.{stays_refl}
use Rattle.hls_tree_passes.proofs.asking.tell_thread.Goals as goal

pub returns-then-is_sched_at : goal.returns-then-is_sched_at
returns-then-is_sched_at g c = record {
  tells = record {
    thread = λ off. absurd (off (sym c.is_sched_at.ensures ∙ c.if-is_sched_at.true));
    scheduler = λ is k. refl;
  };
  late = stays_refl (λ b. (goal.Scheduler-dyn g (b.vtable, b.value)).seen b.value) _ c.requires.late;
}

pub returns : goal.returns
returns g c = record {
  tells = record {
    thread = λ off. c.tell_ports.ensures.tells;
    scheduler = λ is. absurd (
        let no = c.if-is_sched_at.false in let on = c.is_sched_at.ensures ∙ is in cc);
  };
  late = c.tell_ports.ensures.late;
}
