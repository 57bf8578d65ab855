use Rattle.std.proofs.Common.{◌≡◌, ◌≤◌, ◌*◌, ◌^◌}
use Rattle.hls_kinds.specs.Slots.{sum_below}
use Rattle.hls_chron.specs.Seats.{terms_at}
use Rattle.hls_kinds.specs.Room.{weight_in}
use Rattle.hls_kinds_lookup.proofs.room.weight_used.Given as goal

abbrev pub invariant-loop-slot : goal.invariant-loop-slot
invariant-loop-slot l = record {
  used : l.used ≡ sum_below (λ slot. weight_in (terms_at l.book slot)) l.slot;
  within : l.used ≤ l.slot * 2 ^ 90;
}
