use Rattle.std.proofs.Common.{◌∙◌, ap, arith}
use Rattle.hls_tree_nodes.specs.Shown.{seats_in}
use Rattle.hls_tree_nodes.specs.Views.{shown_at}
use Rattle.hls_tree_nodes.proofs.Snapshots.{alike_refl, alike_then}
use Rattle.hls_tree_passes.proofs.Tells.{all_start, all_next, all_end, thread_alike}
use Rattle.hls_tree_nodes.proofs.Late.{stays_refl, stays_then}
use Rattle.hls_tree_passes.proofs.Voices.{still_refl, still_then, thread_still}
use Rattle.hls_tree_nodes.proofs.Walks.{none_at}
use Rattle.hls_tree_passes.proofs.asking.tell_threads.Goals as goal

pub loop-key-init : goal.loop-key-init
loop-key-init g c = record {
  telling = all_start _ c.requires.telling;
  alike = alike_refl _;
  still = still_refl _;
  late = stays_refl (λ b. (goal.Scheduler-dyn g (b.vtable, b.value)).seen b.value) _ c.requires.late;
}

pub tell_thread-requires : goal.tell_thread-requires
tell_thread-requires g c = record {
  laid = c.loop-key.invariant.telling.laid;
  posted = c.loop-key.invariant.telling.posted;
  late = c.loop-key.invariant.late.late;
}

pub loop-key-preserved : goal.loop-key-preserved
loop-key-preserved g c = record {
  telling = all_next _ _ _ c.loop-key.invariant.telling c.tell_thread.ensures.tells;
  alike = alike_then _ _ _ c.loop-key.invariant.alike (thread_alike _ _ _ c.tell_thread.ensures.tells);
  still = still_then _
      (shown_at (λ b. (goal.Scheduler-dyn g (b.vtable, b.value)).seen b.value) c.loop-key.nodes)
      (shown_at (λ b. (goal.Scheduler-dyn g (b.vtable, b.value)).seen b.value) c.tell_thread.new.nodes)
      c.loop-key.invariant.alike c.loop-key.invariant.still
      (thread_still _ _ _ c.tell_thread.ensures.tells);
  late = stays_then (λ b. (goal.Scheduler-dyn g (b.vtable, b.value)).seen b.value) _ _ _
      c.loop-key.invariant.late c.tell_thread.ensures.late;
}

pub returns-clause-telling : goal.returns-clause-telling
returns-clause-telling g c = all_end _ _
    (λ k le. c.loop-key.invariant.alike.seats k
    ∙ ap seats_in (none_at (λ b. (goal.Scheduler-dyn g (b.vtable, b.value)).seen b.value) c.args.nodes.now k
    (omega (arith, le, c.loop-key-test.false, c.capacity-end.ensures.slots))))
    c.loop-key.invariant.telling

pub returns-clause-late : goal.returns-clause-late
returns-clause-late g c = c.loop-key.invariant.late
