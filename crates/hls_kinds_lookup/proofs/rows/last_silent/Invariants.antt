use Rattle.std.proofs.Common.{◌≡◌, not}
use Rattle.hls_chron.specs.Seats.{asked}
use Rattle.hls_kinds.specs.Ticks.{last_of}
use Rattle.hls_kinds_lookup.proofs.rows.last_silent.Given as goal

abbrev pub invariant-loop-k : goal.invariant-loop-k
invariant-loop-k l = l.last ≡ last_of (λ t. not (asked l.book l.slot t)) l.from l.k
