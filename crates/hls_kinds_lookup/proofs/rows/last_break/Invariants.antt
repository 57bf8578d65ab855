use Rattle.std.proofs.Common.{◌≡◌}
use Rattle.hls_kinds.specs.Turns.{breaks_turn}
use Rattle.hls_kinds.specs.Ticks.{last_of}
use Rattle.hls_kinds_lookup.proofs.rows.last_break.Given as goal

abbrev pub invariant-loop-k : goal.invariant-loop-k
invariant-loop-k l = l.last ≡ last_of (breaks_turn l.book l.slot) l.from l.k
