use Rattle.std.proofs.Common.{arith, subst, get_or}
use Rattle.hls_tree_nodes.specs.Views.{shown_at}
use Rattle.hls_tree_nodes.specs.Levels.{IsLevel}
use Rattle.hls_tree_nodes.proofs.Snapshots.{alike_refl, alike_then}
use Rattle.hls_tree_passes.proofs.Tells.{levels_start, level_to, levels_end, roll_alike}
use Rattle.hls_tree_passes.proofs.Levels.{level_alike}
use Rattle.hls_tree_nodes.proofs.Late.{stays_refl, stays_then}
use Rattle.hls_tree_passes.proofs.asking.tell_schedulers_news.Goals as goal

pub loop-step-init : goal.loop-step-init
loop-step-init g c = record {
  telling = level_to _ _ _ (omega arith) (levels_start _ _ _ c.requires.roll.all c.deepest-deep.ensures.most
      c.requires.telling);
  alike = alike_refl _;
  voices = c.requires.known.voices;
  late = stays_refl _ _ c.requires.late;
  quiet = c.requires.quiet;
}

pub tell_level_news-voices-requires : goal.tell_level_news-voices-requires
tell_level_news-voices-requires g c = record {
  roll = roll_alike _ _ _ c.loop-step.invariant.alike c.requires.roll;
  places = level_alike _ _ _ _ _ c.loop-step.invariant.alike (subst
      (λ n. IsLevel (shown_at (λ b. (goal.Scheduler-dyn g (b.vtable, b.value)).seen b.value) c.args.nodes.now) n
      c.args.schedulers.now (get_or c.args.known.now.places c.from.result 0)) c.from.ensures
      (c.requires.known.places c.from.result (omega (
        arith,
        c.from.ensures,
        c.loop-step.auto.step,
        c.deepest-deep.ensures.within,
      ))));
  telling = level_to _ _ _ (omega (arith, c.loop-step-test.true)) c.loop-step.invariant.telling;
  voices = c.loop-step.invariant.voices;
  late = c.loop-step.invariant.late.late;
  quiet = c.loop-step.invariant.quiet;
}

pub loop-step-preserved : goal.loop-step-preserved
loop-step-preserved g c = record {
  telling = level_to _ _ _ (omega (arith, c.loop-step-test.true)) c.tell_level_news-voices.ensures.telling;
  alike = alike_then _ _ _ c.loop-step.invariant.alike c.tell_level_news-voices.ensures.alike;
  voices = c.tell_level_news-voices.ensures.voices;
  late = stays_then _ _ _ _ c.loop-step.invariant.late c.tell_level_news-voices.ensures.late;
  quiet = c.tell_level_news-voices.ensures.quiet;
}

pub returns-clause-telling : goal.returns-clause-telling
returns-clause-telling g c =
    levels_end _ _ (omega (arith, c.loop-step-test.false)) c.loop-step.invariant.telling
