use Rattle.std.proofs.Common.{map, string_bytes}
use Rattle.hls_offer_words.proofs.Tails.{no_tail_over, no_tail_more, some_texts}
use Rattle.hls_offer_words.proofs.told.asked_with.Goals as goal

pub returns-in_default : goal.returns-in_default
returns-in_default c =
    no_tail_over c.args.question (map string_bytes c.args.words.now)
    (rw c.in_default.is at (rw c.most_period.ensures at c.in_ok-over.ensures))

pub returns-then-not-is_empty : goal.returns-then-not-is_empty
returns-then-not-is_empty c =
    no_tail_more c.args.question (map string_bytes c.args.words.now) c.in-Some.over.periods
    (map string_bytes c.in-Some.over.rest.now)
    (rw c.in-Some.is at (rw c.most_period.ensures at c.in_ok-over.ensures))
    (some_texts string_bytes c.in-Some.over.rest.now c.is_empty.result c.is_empty.ensures c.if-not-is_empty.true)
