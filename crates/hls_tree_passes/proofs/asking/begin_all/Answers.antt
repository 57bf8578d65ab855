use Rattle.std.proofs.Common.{◌≡◌, Some, true, sym, subst, ap, ◌∙◌, arith, refl, slice_get}
use Rattle.std.proofs.lemmas.Option.{slice_get_read}
use Rattle.hls_tree_nodes.specs.Shown.{on_post, post_revoked, level_in, PostedIn}
use Rattle.hls_tree_nodes.specs.Views.{shown_at, stored_at}
use Rattle.hls_tree_nodes.proofs.Behind.{late_level}
use Rattle.hls_tree_nodes.proofs.Late.{posted_stored}
use Rattle.hls_tree_passes.proofs.Tells.{low_level}
use Rattle.hls_tree_passes.proofs.Tellings.{begun, begun_late, begun_shown}
use Rattle.hls_tree_passes.proofs.Levels.{levels_none, levels_step, levels_past, levels_all}
use Rattle.hls_tree_nodes.proofs.Walks.{changes_start, changes_step, not_before}
use Rattle.hls_tree_passes.proofs.asking.begin_all.Goals as goal
use Rattle.hls_tree_passes.proofs.asking.begin_all.Goals.{then-at-lt64, else-at-lt64}

pub loop-at-init : goal.loop-at-init
loop-at-init g c = record {
  changed = changes_start (λ o. o) (λ k. on_post post_revoked) _ _;
  levels = levels_none _ _;
}

pub begin_at-level-requires : goal.begin_at-level-requires
begin_at-level-requires g c =
    let at : slice_get c.args.schedulers.now c.loop-at.at ≡ Some c.index-schedulers-at.result =
    slice_get_read c.args.schedulers.now _ c.loop-at.at c.index-schedulers-at.result refl c.loop-at-test.true
    c.index-schedulers-at.is in
    let key_at = at ∙ ap Some (sym c.key.ensures.key) in
    record {
      posted = subst PostedIn
          (sym (c.loop-at.invariant.changed.rest c.key.result (not_before _ _ c.requires.roll _ _ key_at)))
          (posted_stored (λ b. (goal.Scheduler-dyn g (b.vtable, b.value)).seen b.value) c.args.nodes.now
          c.key.result (c.requires.posted c.key.result));
    }

pub loop-at-preserved : goal.loop-at-preserved
loop-at-preserved g c =
    let at : slice_get c.args.schedulers.now c.loop-at.at ≡ Some c.index-schedulers-at.result =
    slice_get_read c.args.schedulers.now _ c.loop-at.at c.index-schedulers-at.result refl c.loop-at-test.true
    c.index-schedulers-at.is in
    let key_at = at ∙ ap Some (sym c.key.ensures.key) in
    let first = not_before _ _ c.requires.roll _ _ key_at in
    let level_is = c.begin_at-level.ensures.level
    ∙ ap level_in (c.loop-at.invariant.changed.rest c.key.result first)
    ∙ sym (late_level c.args.nodes.now.behind c.args.nodes.now.tick
    (stored_at (λ b. (goal.Scheduler-dyn g (b.vtable, b.value)).seen b.value) c.args.nodes.now.slab c.key.result)) in
    record {
      changed = changes_step (λ o. o) (λ k. on_post post_revoked) _ _ _ _ _ _ key_at first
          c.loop-at.invariant.changed c.begin_at-level.ensures.others c.begin_at-level.ensures.here;
      levels = elim c.if-at-lt64.branch [
        | then-at-lt64 w ↦ levels_step _ _ _ c.key.result _ _ _ key_at w.if-at-lt64.true (w.from.ensures ∙ level_is)
            (let low = low_level (shown_at (λ b. (goal.Scheduler-dyn g (b.vtable, b.value)).seen b.value)
            c.args.nodes.now) c.key.result c.requires.ranked in omega (arith, w.from.ensures, level_is, low))
            w.places-is c.loop-at.invariant.levels
        | else-at-lt64 w ↦ levels_past _ _ _ _ _ w.if-at-lt64.false w.places-is c.loop-at.invariant.levels
      ];
    }

pub returns : goal.returns
returns g c =
    let new = record c.loop-at.nodes { behind = true; tick = 0; quiet = 0 } in
    let revoked = begun (λ b. (goal.Scheduler-dyn g (b.vtable, b.value)).seen b.value) c.args.nodes.now new _ _
    c.requires.roll c.requires.flat (omega (arith, c.loop-at-test.false)) c.loop-at.invariant.changed in
    record {
      revoked = begun_shown (λ b. (goal.Scheduler-dyn g (b.vtable, b.value)).seen b.value) new
          (shown_at (λ b. (goal.Scheduler-dyn g (b.vtable, b.value)).seen b.value) c.args.nodes.now) revoked;
      places = levels_all _ _ _ _ (omega (arith, c.loop-at-test.false)) c.loop-at.invariant.levels;
      late = begun_late (λ b. (goal.Scheduler-dyn g (b.vtable, b.value)).seen b.value) new
          (shown_at (λ b. (goal.Scheduler-dyn g (b.vtable, b.value)).seen b.value) c.args.nodes.now) refl revoked;
      behind = refl;
      tick = refl;
      quiet = refl;
    }
