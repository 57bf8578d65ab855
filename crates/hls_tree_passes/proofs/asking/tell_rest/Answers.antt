use Rattle.std.proofs.Common.{arith}
use Rattle.hls_tree_nodes.proofs.Snapshots.{alike_refl, alike_then}
use Rattle.hls_tree_passes.proofs.Tells.{level_end, roll_alike}
use Rattle.hls_tree_nodes.proofs.Late.{stays_refl, stays_then}
use Rattle.hls_tree_passes.proofs.asking.tell_rest.Goals as goal

pub loop-at-init : goal.loop-at-init
loop-at-init g c = record {
  telling = c.requires.telling;
  alike = alike_refl _;
  far = omega arith;
  voices = λ voices told. told;
  late = stays_refl _ _ c.requires.late;
}

pub tell_scheduler-requires : goal.tell_scheduler-requires
tell_scheduler-requires g c = record {
  roll = roll_alike _ _ _ c.loop-at.invariant.alike c.requires.roll;
  within = c.loop-at-test.true;
  telling = c.loop-at.invariant.telling;
  late = c.loop-at.invariant.late.late;
}

pub loop-at-preserved : goal.loop-at-preserved
loop-at-preserved g c = record {
  telling = c.tell_scheduler.ensures.telling;
  alike = alike_then _ _ _ c.loop-at.invariant.alike c.tell_scheduler.ensures.alike;
  far = (let far = c.loop-at.invariant.far in omega (arith, far));
  voices = λ voices told. c.tell_scheduler.ensures.voices voices c.loop-at.invariant.far
      (c.loop-at.invariant.voices voices told);
  late = stays_then _ _ _ _ c.loop-at.invariant.late c.tell_scheduler.ensures.late;
}

pub returns-clause-telling : goal.returns-clause-telling
returns-clause-telling g c = level_end _ _ _ _ (omega (arith, c.loop-at-test.false)) c.loop-at.invariant.telling
