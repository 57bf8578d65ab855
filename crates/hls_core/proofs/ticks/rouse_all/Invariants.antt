use Rattle.hls_core.proofs.Rousing.{AreRoused, StaysFollow}
use Rattle.hls_core.proofs.ticks.rouse_all.Given as goal

abbrev pub invariant-loop-at : goal.invariant-loop-at
invariant-loop-at g l = record {
  roused : AreRoused (λ z. (goal.Scheduler-dyn g z).seen z.1) l.bursts l.now l.fn.tree l.tree l.at;
  follow : StaysFollow (λ z. (goal.Scheduler-dyn g z).seen z.1) l.bursts l.now l.fn.tree l.tree l.fn.stays l.stays;
}
