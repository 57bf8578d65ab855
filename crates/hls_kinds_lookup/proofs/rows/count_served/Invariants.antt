use Rattle.std.proofs.Common.{◌≡◌, ◌≤◌}
use Rattle.hls_chron.specs.Seats.{served}
use Rattle.hls_chron.specs.Ticks.{count}
use Rattle.hls_kinds_lookup.proofs.rows.count_served.Given as goal

abbrev pub invariant-loop-k : goal.invariant-loop-k
invariant-loop-k l = record {
  counted : l.counted ≡ count (served l.book l.slot) l.from l.k;
  few : l.counted ≤ l.k;
}
