use Rattle.std.proofs.Common.{◌≡◌, ◌^◌, ◌<◌, arith, sym, ◌∙◌}
use Rattle.hls_guarantee.proofs.reading.ratio.Goals as goal

pub returns-in-Some-Some-clause-exact : goal.returns-in-Some-Some-clause-exact
returns-in-Some-Some-clause-exact c = λ f within num den more.
    let num_fits : f.num < 2 ^ 64 = omega (arith, within.num) in
    let den_fits : f.den < 2 ^ 64 = omega (arith, within.den) in
    let first = c.in-Some-Some.ensures.exact f.num num_fits num in
    let second = c.in-Some-Some.ensures'.exact f.den den_fits den in
    let num_is : c.in-Some-Some.num ≡ f.num = cc in
    let den_is : c.in-Some-Some.den ≡ f.den = cc in
    c.quotient.ensures.exact f (sym (c.from.ensures ∙ num_is)) (sym (c.from-in-Some-Some.ensures ∙ den_is))
    more
