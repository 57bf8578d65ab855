use Rattle.std.proofs.Common.{◌≡◌, Some, refl, arith, slice_get, ap, ◌∙◌, sym}
use Rattle.std.proofs.lemmas.Option.{slice_get_read}
use Rattle.hls_tree_nodes.specs.Views.{shown_at}
use Rattle.hls_tree_passes.proofs.Tells.{most_step, most_end, low_level}
use Rattle.hls_tree_passes.proofs.Levels.{most_placed}
use Rattle.hls_tree_passes.proofs.asking.deepest.Goals as goal

pub loop-at-init : goal.loop-at-init
loop-at-init g c = most_placed _ _ _ _ c.requires.ranked c.requires.places c.deepest_placed-deep.ensures.within
    c.deepest_placed-deep.ensures.most

pub loop-at-preserved : goal.loop-at-preserved
loop-at-preserved g c =
    let at : slice_get c.args.keys.now c.loop-at.at ≡ Some c.index-keys-at.result =
    slice_get_read c.args.keys.now _ c.loop-at.at c.index-keys-at.result refl c.loop-at-test.true c.index-keys-at.is in
    most_step _ _ _ _ _ _ (at ∙ ap Some (sym c.key.ensures.key))
    (omega (
      arith,
      c.max-deep.ensures,
      c.loop-at.invariant.within,
      c.level_at.ensures,
      low_level (shown_at
          (λ b. (goal.Scheduler-dyn g (b.vtable, b.value)).seen b.value) c.args.nodes.now) c.key.result
          c.requires.ranked,
    ))
    c.loop-at.invariant
    (omega (arith, c.max-deep.ensures)) (rw (← c.level_at.ensures) (omega (arith, c.max-deep.ensures)))

pub returns-clause-most : goal.returns-clause-most
returns-clause-most g c = most_end _ _ _ _ (omega (arith, c.loop-at-test.false)) c.loop-at.invariant
