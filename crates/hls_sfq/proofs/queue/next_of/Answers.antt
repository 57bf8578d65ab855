use Rattle.std.proofs.Common.{refl}
use Rattle.hls_sfq.proofs.Queues.{first_of_queue, least_below, chosen_on, chosen_off}
use Rattle.hls_sfq.proofs.queue.next_of.Goals as goal

pub returns-then-turn_goes_on-clause-value : goal.returns-then-turn_goes_on-clause-value
returns-then-turn_goes_on-clause-value c = λ time seats is.
    chosen_on time c.args.mask c.args.mask c.turn_goes_on.result seats c.args.turn refl
    c.turn_goes_on.ensures.value c.if-turn_goes_on.true

pub returns-else-turn_goes_on-clause-value : goal.returns-else-turn_goes_on-clause-value
returns-else-turn_goes_on-clause-value c = λ time seats is.
    chosen_off time c.args.mask c.args.mask c.turn_goes_on.result seats c.args.turn refl
    c.turn_goes_on.ensures.value c.if-turn_goes_on.false c.least.result
    (first_of_queue c.args.queue.now time seats c.args.mask is c.least.result c.least.ensures)

pub returns-else-turn_goes_on-clause-within : goal.returns-else-turn_goes_on-clause-within
returns-else-turn_goes_on-clause-within c = λ size.
    least_below c.args.queue.now c.least.result size c.least.ensures
