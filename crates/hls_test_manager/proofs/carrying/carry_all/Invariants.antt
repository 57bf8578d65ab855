use Rattle.std.proofs.Common.{◌≤◌}
use Rattle.hls_sched.specs.GoodKit.{IsGood}
use Rattle.hls_sched.specs.Boxed.{boxed}
use Rattle.hls_tree.specs.Trees.{Stands}
use Rattle.hls_test_manager.specs.Standing.{MayCarry}
use Rattle.hls_test_manager.proofs.carrying.carry_all.Given as goal

abbrev pub invariant-loop-item : goal.invariant-loop-item
invariant-loop-item g l = record {
  stands : Stands (λ z. (goal.Scheduler-dyn g z).seen z.1) l.tree (MayCarry l.left);
  good : IsGood (boxed (λ z. (goal.Scheduler-dyn g z).seen z.1)) l.kit;
  few : l.left ≤ 64;
}
