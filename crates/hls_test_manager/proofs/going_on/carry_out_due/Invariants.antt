use Rattle.std.proofs.Common.{◌≡◌, ◌-◌, length}
use Rattle.hls_top.proofs.Cores.{GoesOn}
use Rattle.hls_test_manager.proofs.going_on.carry_out_due.Given as goal

abbrev pub invariant-loop : goal.invariant-loop
invariant-loop g l = record {
  on : GoesOn (λ z. (goal.Scheduler-dyn g z).seen z.1) l.fn.core l.core;
  ticks : l.core.journal.ticks ≡ l.fn.core.journal.ticks;
  scenario : l.core.scenario ≡ l.fn.core.scenario;
}

abbrev pub decreases-loop : goal.decreases-loop
decreases-loop g l = length l.core.scenario.items - l.core.agenda
