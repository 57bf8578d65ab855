use Rattle.hls_search.proofs.Beyond.{beyond-best, beyond-goal, higher}
use Rattle.hls_search.proofs.rates.is_beyond.Goals as goal

pub returns-clause-best : goal.returns-clause-best
returns-clause-best c = λ yes n hit.
    let part = c.part_at-weight.ensures in
    beyond-best c.args.place.now.config c.args.place.now.terms c.part_at-weight.result.weight
    c.part_at-weight.result.total part.some part.lends c.args.have.now c.args.want.now
    (higher _ _ _ _ _ _ c.args.have.now c.args.want.now c.rate_of-wanted.ensures.ticks c.rate_of-wanted.ensures.of
    c.rate_of-there.ensures.ticks c.rate_of-there.ensures.of yes)
    n c.requires.config c.requires.terms c.requires.have c.requires.want hit

pub returns-clause-goal : goal.returns-clause-goal
returns-clause-goal c = λ yes n hit.
    let part = c.part_at-weight.ensures in
    beyond-goal c.args.place.now.config c.args.place.now.terms c.part_at-weight.result.weight
    c.part_at-weight.result.total part.some part.lends c.args.have.now c.args.want.now
    (higher _ _ _ _ _ _ c.args.have.now c.args.want.now c.rate_of-wanted.ensures.ticks c.rate_of-wanted.ensures.of
    c.rate_of-there.ensures.ticks c.rate_of-there.ensures.of yes)
    n c.requires.want hit
