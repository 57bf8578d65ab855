use Rattle.std.proofs.Common.{◌≡◌}
use Rattle.hls_chron.specs.Seats.{served}
use Rattle.hls_kinds.specs.Tenants.{asking}
use Rattle.hls_kinds.specs.Reservations.{last_replenished}
use Rattle.hls_kinds_lookup.proofs.reservations.last_replenished.Given as goal

abbrev pub invariant-loop-k : goal.invariant-loop-k
invariant-loop-k l =
    l.last ≡ last_replenished l.reservation (asking l.book l.mask l.slot) (served l.book l.slot) l.k
