use Rattle.std.proofs.Common.{◌*◌, ◌/◌, arith}
use Rattle.hls_guarantee.specs.Conversions.{HasTimes}
use Rattle.hls_offer_laws.proofs.Extremes.{repeated-most, times-repeated}
use Rattle.hls_offer_laws.proofs.Counting.{most-if-some}
use Rattle.hls_offer_laws.proofs.candidates.repeated_ticks.Goals as goal

pub returns : goal.returns
returns c = λ x.
    let ticks = c.args.ticks in
    let period = c.args.period in
    let y = c.args.y in
    let wanted = c.requires in
    most-if-some {P = λ more. HasTimes ticks period more y} c.if_some.result (y / period * ticks) x c.if_some.ensures
    (repeated-most ticks period y (omega (arith, wanted.some, wanted.fits)))
    (λ more has. times-repeated ticks period more y (omega (arith, wanted.some, wanted.fits)) has)
