use Rattle.std.proofs.Common.{◌∙◌}
use Rattle.hls_kinds.specs.Asks.{asks_in_budget, asks_softly}
use Rattle.hls_kinds_lookup.proofs.ChoiceLaws.{asks-first, asks-second}
use Rattle.hls_kinds_lookup.proofs.choice.asks_at.Goals as goal

pub returns-then-is_some : goal.returns-then-is_some
returns-then-is_some c =
    let budget = asks_in_budget c.args.book.now c.args.mask in
    let soft = asks_softly c.args.book.now c.args.mask in
    rw c.in-Edf.is (asks-first budget soft c.is_some.result c.if-is_some.true
    (c.is_some.ensures ∙ c.first_slot.ensures.any))

pub returns-else-is_some : goal.returns-else-is_some
returns-else-is_some c =
    let budget = asks_in_budget c.args.book.now c.args.mask in
    let soft = asks_softly c.args.book.now c.args.mask in
    rw c.in-Edf.is (asks-second budget soft c.is_some.result c.is_some-else-is_some.result c.if-is_some.false
    (c.is_some.ensures ∙ c.first_slot.ensures.any)
    (c.is_some-else-is_some.ensures ∙ c.first_slot-else-is_some.ensures.any))
