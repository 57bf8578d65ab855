use Rattle.std.proofs.Common.{refl}
use Rattle.hls_check.proofs.Failing.{derivation-holds}
use Rattle.hls_check.proofs.checking.check.Goals as goal

pub returns-in-Some-clause-yes : goal.returns-in-Some-clause-yes
returns-in-Some-clause-yes c =
    let a = c.args in
    let first = c.in-Some.ensures.some in (
      λ no. cc,
      λ is. absurd (first.fails (derivation-holds a.place.now a.haves.now a.want.now a.d.now is
          c.in-Some.step)),
    )

pub returns-in-None-clause-no : goal.returns-in-None-clause-no
returns-in-None-clause-no c = λ step.
    let a = c.args in
    let is = c.in-None.ensures.none refl in (
      λ no. cc,
      λ first. absurd (first.fails (derivation-holds a.place.now a.haves.now a.want.now a.d.now is step)),
    )
