use Rattle.std.proofs.Common.{ap, ◌∙◌, sym, ◌*◌, ◌+◌, arith}
use Rattle.hls_gen.specs.Generated.{with_round}
use Rattle.hls_gen.specs.Inside.Making.{made_of}
use Rattle.hls_gen.proofs.Rounds.{rounds_none, rounds_next}
use Rattle.hls_gen.proofs.making.Making.put_rounds.Goals as goal

pub loop-round-init : goal.loop-round-init
loop-round-init c = sym (rounds_none (made_of c.args.self.now))

pub loop-round-preserved : goal.loop-round-preserved
loop-round-preserved c =
    c.in_ok-put_round.ensures ∙ ap (with_round (10 * (c.loop-round.round + 1))) c.loop-round.invariant
    ∙ sym (rounds_next c.loop-round.round (c.loop-round.round + 1) (made_of c.args.self.now) (omega arith))
