use Rattle.std.proofs.Common.{◌≡◌, ◌≤◌, is_some}
use Rattle.hls_chron.specs.Seats.{terms_at}
use Rattle.hls_chron.specs.Ticks.{count}
use Rattle.hls_test_answers.proofs.seating.seats_taken.Given as goal

abbrev pub invariant-loop-slot : goal.invariant-loop-slot
invariant-loop-slot l = record {
  counted : l.taken ≡ count (λ slot. is_some (terms_at l.book slot)) 0 l.slot;
  few : l.taken ≤ l.slot;
}
