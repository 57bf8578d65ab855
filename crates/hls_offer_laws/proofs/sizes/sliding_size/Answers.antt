use Rattle.std.proofs.Common.{◌≡◌, sym, subst}
use Rattle.hls_offer_laws.specs.Candidates.{IsLeast, Slides}
use Rattle.hls_offer_laws.proofs.Sizing.{slide_of, slides-least, up-to-least}
use Rattle.hls_offer_laws.proofs.sizes.sliding_size.Goals as goal

pub returns : goal.returns
returns c = λ x.
    let ticks = c.args.ticks in
    let period = c.args.period in
    let y = c.args.y in
    let same : c.max.result ≡ slide_of ticks period y = cc in
    up-to-least {P = λ size. Slides ticks period size y} c.up_to.result c.max.result y
    (subst (λ v. IsLeast (λ size. Slides ticks period size y) v) (sym same)
    (slides-least ticks period y c.requires.fits))
    c.up_to.ensures x
