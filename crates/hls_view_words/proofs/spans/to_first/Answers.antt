use Rattle.std.proofs.Common.{map, string_bytes, refl, arith}
use Rattle.hls_view_words.proofs.Heading.{no_to, to_wrong}
use Rattle.hls_view_words.proofs.spans.to_first.Goals as goal

pub returns-in_err-head-clause-none : goal.returns-in_err-head-clause-none
returns-in_err-head-clause-none c = λ none from to is.
    no_to (map string_bytes c.args.words.now) (λ n rest small heads. c.in_err-head.ensures.none refl n rest small heads)
    from to is

pub returns-then-from-head-clause-none : goal.returns-then-from-head-clause-none
returns-then-from-head-clause-none c = λ none from to is.
    let head = c.in_ok-head.ensures.found in
    let other = c.in_ok-from.ensures.found in
    let wrong = c.if-from-head.true in
    to_wrong (map string_bytes c.args.words.now) (map string_bytes c.in_ok-head.head.rest.now) c.in_ok-head.head.number
    c.in_ok-from.from (omega (arith, other.0)) (omega (arith, wrong)) head.1 other.1 from to is
