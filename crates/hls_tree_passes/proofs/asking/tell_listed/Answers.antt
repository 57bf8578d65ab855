use Rattle.std.proofs.Common.{◌≡◌, Some, refl, arith, slice_get, ap, ◌∙◌, sym}
use Rattle.std.proofs.lemmas.Option.{slice_get_read}
use Rattle.hls_tree_nodes.specs.Views.{shown_at}
use Rattle.hls_tree_nodes.proofs.Snapshots.{alike_refl, alike_then}
use Rattle.hls_tree_passes.proofs.Tells.{listed_start, listed_next, listed_end, thread_alike}
use Rattle.hls_tree_nodes.proofs.Late.{stays_refl, stays_then}
use Rattle.hls_tree_passes.proofs.Voices.{still_refl, still_then, thread_still}
use Rattle.hls_tree_passes.proofs.asking.tell_listed.Goals as goal

pub loop-id-init : goal.loop-id-init
loop-id-init g c = record {
  telling = listed_start _ _ c.requires.telling;
  alike = alike_refl _;
  still = still_refl _;
  late = stays_refl (λ b. (goal.Scheduler-dyn g (b.vtable, b.value)).seen b.value) _ c.requires.late;
}

pub tell_thread-requires : goal.tell_thread-requires
tell_thread-requires g c = record {
  laid = c.loop-id.invariant.telling.laid;
  posted = c.loop-id.invariant.telling.posted;
  late = c.loop-id.invariant.late.late;
}

pub loop-id-preserved : goal.loop-id-preserved
loop-id-preserved g c =
    let at : slice_get c.args.threads.now c.loop-id.id-index ≡ Some c.id-item.result =
    slice_get_read c.args.threads.now _ c.loop-id.id-index c.id-item.result refl c.loop-id-test.true c.id-item.is in
    record {
      telling = listed_next _
          (shown_at (λ b. (goal.Scheduler-dyn g (b.vtable, b.value)).seen b.value) c.tell_thread.new.nodes) _ _ _
          (at ∙ ap Some (sym c.key.ensures.key)) c.loop-id.invariant.telling c.tell_thread.ensures.tells;
      alike = alike_then _ _ _ c.loop-id.invariant.alike (thread_alike _ _ _ c.tell_thread.ensures.tells);
      still = still_then _
          (shown_at (λ b. (goal.Scheduler-dyn g (b.vtable, b.value)).seen b.value) c.loop-id.nodes)
          (shown_at (λ b. (goal.Scheduler-dyn g (b.vtable, b.value)).seen b.value) c.tell_thread.new.nodes)
          c.loop-id.invariant.alike c.loop-id.invariant.still
          (thread_still _ _ _ c.tell_thread.ensures.tells);
      late = stays_then (λ b. (goal.Scheduler-dyn g (b.vtable, b.value)).seen b.value) _ _ _
          c.loop-id.invariant.late c.tell_thread.ensures.late;
    }

pub returns-clause-telling : goal.returns-clause-telling
returns-clause-telling g c =
    listed_end _ _ _ (omega (arith, c.loop-id-test.false)) c.loop-id.invariant.telling

pub returns-clause-late : goal.returns-clause-late
returns-clause-late g c = c.loop-id.invariant.late
