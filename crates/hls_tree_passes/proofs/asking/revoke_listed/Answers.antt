use Rattle.std.proofs.Common.{◌≡◌, Some, sym, ap, ◌∙◌, arith, refl, slice_get}
use Rattle.std.proofs.lemmas.Option.{slice_get_read}
use Rattle.hls_tree_nodes.specs.Shown.{on_post, post_revoked}
use Rattle.hls_tree_nodes.specs.Views.{shown_at}
use Rattle.hls_tree_nodes.proofs.Late.{stays_refl, stays_then}
use Rattle.hls_tree_passes.proofs.Tellings.{shown_up}
use Rattle.hls_tree_nodes.proofs.Walks.{changes_start}
use Rattle.hls_tree_passes.proofs.Routes.{revoked_step, revoked_listed, still_posted}
use Rattle.hls_tree_passes.proofs.asking.revoke_listed.Goals as goal

pub loop-id-init : goal.loop-id-init
loop-id-init g c = record {
  changed = changes_start (λ o. o) (λ k. on_post post_revoked) _ _;
  late = stays_refl (λ b. (goal.Scheduler-dyn g (b.vtable, b.value)).seen b.value) _ c.requires.late;
}

pub revoke_at-requires : goal.revoke_at-requires
revoke_at-requires g c = record {
  posted = still_posted
      (shown_at (λ b. (goal.Scheduler-dyn g (b.vtable, b.value)).seen b.value) c.args.nodes.now)
      (shown_at (λ b. (goal.Scheduler-dyn g (b.vtable, b.value)).seen b.value) c.loop-id.nodes) _ _ c.requires.posted
      c.loop-id.invariant.changed c.key.result;
  late = c.loop-id.invariant.late.late;
  behind = c.loop-id.invariant.late.behind ∙ c.requires.behind;
}

pub loop-id-preserved : goal.loop-id-preserved
loop-id-preserved g c =
    let at : slice_get c.args.route.now c.loop-id.id-index ≡ Some c.id-item.result =
    slice_get_read c.args.route.now _ c.loop-id.id-index c.id-item.result refl c.loop-id-test.true c.id-item.is in
    record {
      changed = revoked_step _ _ _ _ _ c.key.result (at ∙ ap Some (sym c.key.ensures.key)) c.loop-id.invariant.changed
          c.revoke_at.ensures.others c.revoke_at.ensures.here;
      late = stays_then (λ b. (goal.Scheduler-dyn g (b.vtable, b.value)).seen b.value) _ _ _
          c.loop-id.invariant.late c.revoke_at.ensures.late;
    }

pub returns : goal.returns
returns g c = record {
  revoked = revoked_listed _ _ _ _ c.requires.posted c.requires.along
      (shown_up (λ b. (goal.Scheduler-dyn g (b.vtable, b.value)).seen b.value) c.args.nodes.now c.requires.behind)
      (omega (arith, c.loop-id-test.false)) c.loop-id.invariant.changed;
  late = c.loop-id.invariant.late;
}
