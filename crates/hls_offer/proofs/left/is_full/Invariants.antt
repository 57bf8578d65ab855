use Rattle.std.proofs.Common.{◌≢◌, ℕ, ◌<◌, None}
use Rattle.hls_kinds.specs.Room.{occupant_at}
use Rattle.hls_offer.proofs.left.is_full.Given as goal

abbrev pub invariant-loop-slot : goal.invariant-loop-slot
invariant-loop-slot l = (k : ℕ) → k < l.slot → occupant_at l.config l.book k ≢ None
