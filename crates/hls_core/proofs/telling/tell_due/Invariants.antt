use Rattle.std.proofs.Common.{◌≡◌, ◌-◌, length}
use Rattle.hls_core.specs.Inside.Tellings.{TellsOn}
use Rattle.hls_core.proofs.telling.tell_due.Given as goal

abbrev pub invariant-loop : goal.invariant-loop
invariant-loop g l = record {
  on : TellsOn (λ z. (goal.Scheduler-dyn g z).seen z.1) l.fn.core l.fn.text.items l.core l.text.items;
  ticks : l.core.journal.ticks ≡ l.fn.core.journal.ticks;
  scenario : l.core.scenario ≡ l.fn.core.scenario;
}

abbrev pub decreases-loop : goal.decreases-loop
decreases-loop g l = length l.core.scenario.items - l.core.agenda
