use Rattle.std.proofs.Common.{◌≡◌, ℕ, ◌*◌, ◌-◌, ◌/◌, sym, subst}
use Rattle.std.specs.Prelude.{max}
use Rattle.hls_offer_laws.specs.Candidates.{IsLeast, Provides}
use Rattle.hls_offer_laws.proofs.Extremes.{ceiling}
use Rattle.hls_offer_laws.proofs.Sizing.{provides-least, up-to-least}
use Rattle.hls_offer_laws.proofs.sizes.providing_size.Goals as goal

pub returns : goal.returns
returns c = λ x.
    let s = c.args.s.now in
    let d = c.args.d.now in
    let y = c.args.y in
    let best : ℕ = max (ceiling (s.num * y) s.den) (y - d.num * s.den / (2 * s.num * d.den)) in
    let same : c.max.result ≡ best = cc in
    let least = provides-least s d y c.requires.share.some in
    up-to-least {P = λ size. Provides s d size y} c.up_to.result c.max.result y
    (subst (λ v. IsLeast (λ size. Provides s d size y) v) (sym same) least) c.up_to.ensures x
