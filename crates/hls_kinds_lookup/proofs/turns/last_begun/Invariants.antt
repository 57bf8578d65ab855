use Rattle.std.proofs.Common.{◌≡◌}
use Rattle.hls_kinds.specs.Tags.{begins_turn}
use Rattle.hls_kinds.specs.Ticks.{last_of}
use Rattle.hls_kinds_lookup.proofs.turns.last_begun.Given as goal

abbrev pub invariant-loop-k : goal.invariant-loop-k
invariant-loop-k l = l.last ≡ last_of (begins_turn l.quantum l.book) l.from l.k
