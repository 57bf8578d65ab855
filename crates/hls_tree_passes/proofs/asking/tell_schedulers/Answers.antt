use Rattle.std.proofs.Common.{arith, subst, get_or}
use Rattle.hls_tree_nodes.specs.Views.{shown_at}
use Rattle.hls_tree_nodes.proofs.Snapshots.{alike_refl, alike_then}
use Rattle.hls_tree_passes.proofs.Tells.{levels_start, level_to, levels_end, roll_alike}
use Rattle.hls_tree_nodes.specs.Levels.{IsLevel}
use Rattle.hls_tree_passes.proofs.Levels.{level_alike}
use Rattle.hls_tree_nodes.proofs.Late.{stays_refl, stays_then}
use Rattle.hls_tree_passes.proofs.asking.tell_schedulers.Goals as goal

pub loop-step-init : goal.loop-step-init
loop-step-init g c = record {
  telling = level_to _ _ _ (omega arith) (levels_start _ _ _ c.requires.roll.all c.deepest-deep.ensures.most
      c.requires.telling);
  alike = alike_refl _;
  late = stays_refl _ _ c.requires.late;
}

pub tell_level-requires : goal.tell_level-requires
tell_level-requires g c = record {
  roll = roll_alike _ _ _ c.loop-step.invariant.alike c.requires.roll;
  places = level_alike _ _ _ _ _ c.loop-step.invariant.alike (subst
      (λ n. IsLevel (shown_at (λ b. (goal.Scheduler-dyn g (b.vtable, b.value)).seen b.value) c.args.nodes.now) n
      c.args.schedulers.now (get_or c.args.places.now c.from.result 0)) c.from.ensures
      (c.requires.places c.from.result (omega (
        arith,
        c.from.ensures,
        c.loop-step.auto.step,
        c.deepest-deep.ensures.within,
      ))));
  telling = level_to _ _ _ (omega (arith, c.loop-step-test.true)) c.loop-step.invariant.telling;
  late = c.loop-step.invariant.late.late;
}

pub loop-step-preserved : goal.loop-step-preserved
loop-step-preserved g c = record {
  telling = level_to _ _ _ (omega (arith, c.loop-step-test.true)) c.tell_level.ensures.telling;
  alike = alike_then _ _ _ c.loop-step.invariant.alike c.tell_level.ensures.alike;
  late = stays_then _ _ _ _ c.loop-step.invariant.late c.tell_level.ensures.late;
}

pub returns-then-deep-lt2-clause-telling : goal.returns-then-deep-lt2-clause-telling
returns-then-deep-lt2-clause-telling g c = levels_end _ _ (omega (arith, c.if-deep-lt2.true))
    (levels_start _ _ _ c.requires.roll.all c.deepest-deep.ensures.most c.requires.telling)

pub returns-clause-telling : goal.returns-clause-telling
returns-clause-telling g c =
    levels_end _ _ (omega (arith, c.loop-step-test.false)) c.loop-step.invariant.telling

pub returns-then-deep-lt2-clause-late : goal.returns-then-deep-lt2-clause-late
returns-then-deep-lt2-clause-late g c = stays_refl _ _ c.requires.late
