use Rattle.std.proofs.Common.{◌≡◌, ◌^◌, ◌<◌, arith, sym, ◌∙◌, ap}
use Rattle.std.specs.Prelude.{decimal}
use Rattle.hls_guarantee.proofs.Spellings.{whole_found, whole_exact}
use Rattle.hls_guarantee.proofs.reading.whole.Goals as goal

pub returns-in-Some-clause-found : goal.returns-in-Some-clause-found
returns-in-Some-clause-found c =
    whole_found c.make.result c.args.text.now c.from.result
    (c.in-Some.ensures.found ∙ ap decimal (sym c.from.ensures)) c.make.ensures.value

pub returns-in-Some-clause-exact : goal.returns-in-Some-clause-exact
returns-in-Some-clause-exact c = λ f within num one.
    let fits : f.num < 2 ^ 64 = omega (arith, within.num) in
    let exact = c.in-Some.ensures.exact f.num fits num in
    let is : c.in-Some.num ≡ f.num = cc in
    whole_exact c.make.result c.from.result f (c.make.ensures.some.1 (omega arith)) c.make.ensures.value
    (sym (c.from.ensures ∙ is)) one
