use Rattle.std.proofs.Common.{◌≡◌, sym}
use Rattle.hls_offer_laws.specs.Candidates.{Slides}
use Rattle.hls_offer_laws.proofs.Extremes.{span_of, span-most, slides-span}
use Rattle.hls_offer_laws.proofs.Counting.{most-if-some}
use Rattle.hls_offer_laws.proofs.candidates.spanned_ticks.Goals as goal

pub returns : goal.returns
returns c = λ x.
    let ticks = c.args.ticks in
    let period = c.args.period in
    let y = c.args.y in
    let same : c.min.result ≡ span_of ticks period y = cc in
    most-if-some {P = λ more. Slides more y ticks period} c.if_some.result (span_of ticks period y) x
    (λ v. rw (sym same) (c.if_some.ensures v))
    (span-most ticks period y c.requires.fits)
    (λ more slides. slides-span more y ticks period c.requires.fits slides)
