use Rattle.std.proofs.Common.{◌≡◌, ◌≢◌, Some, true, false, ap, sym, ◌∙◌}
use Rattle.hls_frac.specs.declared.Frac.{Frac}
use Rattle.hls_guarantee.proofs.Spellings.{made_is}
use Rattle.hls_guarantee.proofs.reading.quotient.Goals as goal

pub returns-in-Some-clause-exact : goal.returns-in-Some-clause-exact
returns-in-Some-clause-exact c = λ f num den more.
    ap (λ (v : Frac). Some v) (made_is c.in-Some.f f c.args.num c.args.den c.in-Some.ensures.value num den)

pub returns-in_default-clause-exact : goal.returns-in_default-clause-exact
returns-in_default-clause-exact c = λ f num den more.
    let same = made_is c.in-Some.f f c.args.num c.args.den c.in-Some.ensures.value num den in
    let num_is = ap (λ (v : Frac). v.num) same ∙ num in
    let den_is = ap (λ (v : Frac). v.den) same ∙ den in
    let more_is : c.in-Some.f.den ≢ 1 = λ e. more (sym (ap (λ (v : Frac). v.den) same) ∙ e) in
    let written = c.is_written.ensures.1 (num_is, den_is, more_is) in
    absurd (let no : false ≡ true = sym c.if-is_written.false ∙ written in cc)
