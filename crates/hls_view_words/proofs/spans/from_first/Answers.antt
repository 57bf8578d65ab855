use Rattle.std.proofs.Common.{map, string_bytes, refl, arith}
use Rattle.hls_view_words.proofs.Heading.{no_from, from_wrong}
use Rattle.hls_view_words.proofs.spans.from_first.Goals as goal

pub returns-in_err-head-clause-none : goal.returns-in_err-head-clause-none
returns-in_err-head-clause-none c = λ none from to is.
    no_from (map string_bytes c.args.words.now)
    (λ n rest small heads. c.in_err-head.ensures.none refl n rest small heads)
    from to is

pub returns-then-head-to-clause-none : goal.returns-then-head-to-clause-none
returns-then-head-to-clause-none c = λ none from to is.
    let head = c.in_ok-head.ensures.found in
    let wrong = c.if-head-to.true in
    from_wrong (map string_bytes c.args.words.now) (map string_bytes c.in_ok-head.head.rest.now)
    c.in_ok-head.head.number c.in_ok-to.to
    (omega (arith, head.0)) (omega (arith, wrong)) head.1 c.in_ok-to.ensures.found.1 from to is
