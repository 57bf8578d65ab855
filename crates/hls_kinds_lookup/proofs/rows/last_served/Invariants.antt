use Rattle.std.proofs.Common.{◌≡◌}
use Rattle.hls_chron.specs.Seats.{served}
use Rattle.hls_kinds.specs.Ticks.{last_of}
use Rattle.hls_kinds_lookup.proofs.rows.last_served.Given as goal

abbrev pub invariant-loop-k : goal.invariant-loop-k
invariant-loop-k l = l.last ≡ last_of (served l.book l.slot) l.from l.k
