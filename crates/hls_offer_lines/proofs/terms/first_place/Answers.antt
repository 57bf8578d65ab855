use Rattle.std.proofs.Common.{arith}
use Rattle.hls_offer_lines.proofs.Placing.{none-more, first-there, first-none, when-true, when-false}
use Rattle.hls_offer_lines.proofs.terms.first_place.Goals as goal

pub loop-at-preserved : goal.loop-at-preserved
loop-at-preserved g c =
    none-more c.args.asked.now c.loop-at.at c.terms_at-terms.result c.requires.other c.terms_at-terms.ensures.fits
    c.terms_at-terms.ensures.there
    (when-false _ c.in_ok-is_had_on.field-0 c.if-branch.false c.in_ok-is_had_on.ensures) c.loop-at.invariant

pub returns-then-branch : goal.returns-then-branch
returns-then-branch g c = λ periods.
    first-there c.args.asked.now periods c.loop-at.at c.terms_at-terms.result c.requires.other
    c.terms_at-terms.ensures.fits c.terms_at-terms.ensures.there
    (when-true _ c.in_ok-is_had_on.field-0 c.if-branch.true c.in_ok-is_had_on.ensures) c.loop-at.invariant

pub returns : goal.returns
returns g c = λ periods.
    first-none c.args.asked.now periods c.loop-at.at c.requires.other
    (let count = c.place_count-at-end.ensures in omega arith) c.loop-at.invariant
