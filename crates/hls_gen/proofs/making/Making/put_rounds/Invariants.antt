use Rattle.std.proofs.Common.{◌≡◌}
use Rattle.hls_gen.specs.Generated.{after_rounds}
use Rattle.hls_gen.specs.Inside.Making.{made_of}
use Rattle.hls_gen.proofs.making.Making.put_rounds.Given as goal

abbrev pub invariant-loop-round : goal.invariant-loop-round
invariant-loop-round l = made_of l.self ≡ after_rounds l.round (made_of l.fn.self)
