use Rattle.std.proofs.Common.{arith, ◌∙◌, sym}
use Rattle.hls_box.proofs.TurnLeaps.{few_ticks, had_few}
use Rattle.hls_sfq.proofs.Calls as calls
use Rattle.hls_sfq.proofs.Queues.{rest_by_queue, rest_by_rival}
use Rattle.hls_sfq.proofs.sfq.Sfq.rest_of_share.Goals as goal

pub returns-then-is_passed-clause-value : goal.returns-then-is_passed-clause-value
returns-then-is_passed-clause-value c =
    let self = c.args.self.now in
    rest_by_rival self.queue _ self.turn self.time self.seats self.state.mask c.mask.result c.args.slot
    c.tag_and_step-tag.result.0 c.tag_and_step-tag.result.1 c.ticks_left-left.result (self.queued c.requires.configured)
    (few_ticks _ _ _ (calls.quantum_within _ self.sound c.requires.configured).0 self.kept)
    (rw c.quantum-quantum.ensures.value at c.quantum-quantum.ensures.few) c.mask.ensures
    (sym c.asks_alone.ensures ∙ c.if-asks_alone.false) (rw c.get.ensures at c.tag_and_step-tag.ensures.tag)
    (rw c.get.ensures at c.tag_and_step-tag.ensures.step)
    (rw c.quantum-quantum.ensures.value at c.ticks_left-left.ensures.value)
    (rw c.order-order.ensures at c.is_passed.ensures c.if-is_passed.true)

pub returns-clause-value : goal.returns-clause-value
returns-clause-value c =
    let self = c.args.self.now in
    rest_by_queue self.queue _ self.turn self.time self.seats self.state.mask c.mask.result c.args.slot
    c.tag_and_step-tag.result.0 c.tag_and_step-tag.result.1 c.to_rivals-ticks.result c.ticks_left-left.result
    c.turn_end.result c.min.result (self.queued c.requires.configured)
    (few_ticks _ _ _ (calls.quantum_within _ self.sound c.requires.configured).0 self.kept) c.mask.ensures
    (sym c.asks_alone.ensures ∙ c.if-asks_alone.false) (rw c.get.ensures at c.tag_and_step-tag.ensures.tag)
    (rw c.get.ensures at c.tag_and_step-tag.ensures.step)
    (rw c.order-order.ensures at c.to_rivals-ticks.ensures.value)
    (rw c.quantum-quantum.ensures.value at c.ticks_left-left.ensures.value)
    (rw c.quantum-quantum.ensures.value at c.turn_end.ensures) c.min.ensures

pub returns-clause-some : goal.returns-clause-some
returns-clause-some c =
    let self = c.args.self.now in
    let few = few_ticks _ _ _ (calls.quantum_within _ self.sound c.requires.configured).0 self.kept in
    let had = had_few _ self.turn c.args.slot few in
    let quantum = c.quantum-quantum.ensures.value in
    let left = c.ticks_left-left.ensures.value in
    let ends = c.turn_end.ensures in
    let rest = c.min.ensures in
    omega (arith, had, quantum, left, ends, rest)
