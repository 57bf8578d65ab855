use Rattle.std.proofs.Common.{◌≡◌, ◌^◌, true, false, sym, ap, arith, ◌∙◌, decimal}
use Rattle.hls_text.proofs.WordLaws.{below_again, none_below}
use Rattle.hls_text.proofs.decimals.decimal_number.Goals as goal

pub returns-in-Some-clause-read : goal.returns-in-Some-clause-read
returns-in-Some-clause-read c =
    below_again (2 ^ 128) c.in-Some.n c.args.text.now (omega arith) c.in-Some.ensures.fits
    (c.spells.ensures.0 c.if-spells.true)

pub returns-in_default-clause-read : goal.returns-in_default-clause-read
returns-in_default-clause-read c =
    sym (none_below (2 ^ 128) c.args.text.now (λ n lt is.
    let e = c.in-Some.ensures.exact n lt is in
    let same : c.in-Some.n ≡ n = cc in
    let written = c.spells.ensures.1 (is ∙ ap decimal (sym same)) in
    let f : false ≡ true = sym c.if-spells.false ∙ written in cc))

pub returns-in_default-2-clause-read : goal.returns-in_default-2-clause-read
returns-in_default-2-clause-read c =
    sym (none_below (2 ^ 128) c.args.text.now (λ n lt is. let e = c.in_default.ensures.exact n lt is in cc))
