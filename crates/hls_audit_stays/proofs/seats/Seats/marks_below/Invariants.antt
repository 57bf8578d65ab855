use Rattle.std.proofs.Common.{◌≡◌, ◌-◌, ◌≤◌, take}
use Rattle.hls_audit_stays.proofs.BelowLaws.{within_marks}
use Rattle.hls_audit_stays.proofs.seats.Seats.marks_below.Given as goal

abbrev pub invariant-loop-round : goal.invariant-loop-round
invariant-loop-round l = record {
  marks_are : l.marks.items ≡ within_marks l.self (take l.place l.answered) (l._round - 1) l.above;
  few : l._round - 1 ≤ l.place - 1;
}
