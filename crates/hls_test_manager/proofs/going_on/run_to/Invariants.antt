use Rattle.std.proofs.Common.{◌≡◌, ◌-◌}
use Rattle.hls_top.proofs.Cores.{GoesOn}
use Rattle.hls_test_manager.proofs.going_on.run_to.Given as goal

abbrev pub invariant-loop-core : goal.invariant-loop-core
invariant-loop-core g l = record {
  on : GoesOn (λ z. (goal.Scheduler-dyn g z).seen z.1) l.fn.core l.core;
  scenario : l.core.scenario ≡ l.fn.core.scenario;
}

abbrev pub decreases-loop-core : goal.decreases-loop-core
decreases-loop-core g l = l.horizon - l.core.journal.ticks
