use Rattle.std.proofs.Common.{◌≢◌, ℕ, ◌<◌, None}
use Rattle.hls_kinds.specs.Room.{occupant_at}
use Rattle.hls_test_answers.proofs.seating.free_slot.Given as goal

abbrev pub invariant-loop-slot : goal.invariant-loop-slot
invariant-loop-slot l = (slot : ℕ) → slot < l.slot → occupant_at l.config l.book slot ≢ None
