use Rattle.std.proofs.Common.{◌≡◌, drop}
use Rattle.hls_view_scale.specs.Measures.{first_not_less}
use Rattle.hls_view_scale.proofs.rounds.first_not_less.Given as goal

abbrev pub invariant-loop-number : goal.invariant-loop-number
invariant-loop-number l = first_not_less (drop l.number-index l.numbers) l.least ≡ first_not_less l.numbers l.least
