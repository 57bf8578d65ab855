use Rattle.std.proofs.Common.{◌≢◌, ℕ, ◌<◌, Some}
use Rattle.hls_chron.specs.Seats.{priority_at}
use Rattle.hls_test_answers.proofs.seating.has_priority.Given as goal

abbrev pub invariant-loop-slot : goal.invariant-loop-slot
invariant-loop-slot l = (slot : ℕ) → slot < l.slot → priority_at l.book slot ≢ Some l.priority
