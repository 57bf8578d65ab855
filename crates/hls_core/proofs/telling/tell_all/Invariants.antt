use Rattle.std.proofs.Common.{◌≡◌, ◌-◌}
use Rattle.hls_core.specs.Inside.Tellings.{TellsOn}
use Rattle.hls_core.proofs.telling.tell_all.Given as goal

abbrev pub invariant-loop-core : goal.invariant-loop-core
invariant-loop-core g l = record {
  on : TellsOn (λ z. (goal.Scheduler-dyn g z).seen z.1) l.fn.core l.fn.text.items l.core l.text.items;
  scenario : l.core.scenario ≡ l.fn.core.scenario;
}

abbrev pub decreases-loop-core : goal.decreases-loop-core
decreases-loop-core g l = l.horizon - l.core.journal.ticks
