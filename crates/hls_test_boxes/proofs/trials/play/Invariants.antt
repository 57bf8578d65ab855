use Rattle.std.proofs.Common.{◌≡◌, ◌≤◌, None}
use Rattle.hls_sched.specs.Seen.{IsConfigured}
use Rattle.hls_test_boxes.proofs.trials.play.Given as goal

abbrev pub invariant-loop-step : goal.invariant-loop-step
invariant-loop-step g l = record {
  configured : IsConfigured ((goal.Scheduler-dyn g l.scheduler.now).seen l.scheduler.now.1);
  ungranted : ((goal.Scheduler-dyn g l.scheduler.now).seen l.scheduler.now.1).grant ≡ None;
  mask : ((goal.Scheduler-dyn g l.scheduler.now).seen l.scheduler.now.1).mask ≡ l.known.mask;
  ticks : l.known.ticks ≤ ((goal.Scheduler-dyn g l.scheduler.now).seen l.scheduler.now.1).book.spare_ticks;
  marks : l.known.marks ≤ ((goal.Scheduler-dyn g l.scheduler.now).seen l.scheduler.now.1).book.spare_marks;
}
