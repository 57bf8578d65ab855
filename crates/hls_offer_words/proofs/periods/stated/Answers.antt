use Rattle.std.proofs.Common.{map, string_bytes}
use Rattle.hls_offer_words.proofs.Tails.{stated_over, stated_none}
use Rattle.hls_offer_words.proofs.periods.stated.Goals as goal

pub returns-then-not-may_be_stated : goal.returns-then-not-may_be_stated
returns-then-not-may_be_stated c =
    stated_none c.args.most (map string_bytes c.args.words.now) c.in_ok-numbers.field-0.numbers.items
    (map string_bytes c.in_ok-numbers.field-0.rest.now) c.requires c.in_ok-numbers.ensures
    (rw c.deref.ensures.value at (c.may_be_stated.ensures.no c.if-not-may_be_stated.true))

pub returns : goal.returns
returns c =
    let few = rw c.deref.ensures.value at (c.may_be_stated.ensures.yes c.if-not-may_be_stated.false) in
    rw c.of.ensures (stated_over c.args.most (map string_bytes c.args.words.now) c.in_ok-numbers.field-0.numbers.items
    (map string_bytes c.in_ok-numbers.field-0.rest.now) c.requires c.in_ok-numbers.ensures few.0 few.1)
