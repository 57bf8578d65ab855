use Rattle.std.proofs.Common.{◌≡◌, inl, inr, sym, ◌∙◌, subst}
use Rattle.std.specs.Prelude.{Some}
use Rattle.hls_offer_laws.specs.Candidates.{IsWait}
use Rattle.hls_offer_laws.proofs.WaitLaws.{wait-some}
use Rattle.hls_offer_best.proofs.Trying.{if-each, if-ok-both, lent-of-valid}
use Rattle.hls_offer_best.proofs.waits.wait_through.Goals as goal

pub sooner-requires-clause-some : goal.sooner-requires-clause-some
sooner-requires-clause-some g c =
    let valid =
    lent-of-valid c.args.seat.now.place.config c.args.seat.now.place.terms c.args.have.now c.in-Some.lent
    c.requires.can.config c.requires.can.terms c.requires.have ((c.lent_of.ensures c.in-Some.lent).0 c.in-Some.is).0 in
    if-each c.own_period.result (λ wait is. wait-some c.in-Some.lent wait valid (inl ((c.own_period.ensures
    wait).0 is)))

pub block_wait-requires : goal.block_wait-requires
block_wait-requires g c =
    lent-of-valid c.args.seat.now.place.config c.args.seat.now.place.terms c.args.have.now c.in-Some.lent
    c.requires.can.config c.requires.can.terms c.requires.have ((c.lent_of.ensures c.in-Some.lent).0 c.in-Some.is).0

pub sooner-requires-2-clause-some : goal.sooner-requires-2-clause-some
sooner-requires-2-clause-some g c =
    let valid =
    lent-of-valid c.args.seat.now.place.config c.args.seat.now.place.terms c.args.have.now c.in-Some.lent
    c.requires.can.config c.requires.can.terms c.requires.have ((c.lent_of.ensures c.in-Some.lent).0 c.in-Some.is).0 in
    if-each c.block_wait.result (λ wait is. wait-some c.in-Some.lent wait valid (inr (inl
    ((c.block_wait.ensures wait).0 is))))

pub shared_wait-requires : goal.shared_wait-requires
shared_wait-requires g c =
    lent-of-valid c.args.seat.now.place.config c.args.seat.now.place.terms c.args.have.now c.in-Some.lent
    c.requires.can.config c.requires.can.terms c.requires.have ((c.lent_of.ensures c.in-Some.lent).0 c.in-Some.is).0

pub sooner-requires-3-clause-some : goal.sooner-requires-3-clause-some
sooner-requires-3-clause-some g c =
    let valid =
    lent-of-valid c.args.seat.now.place.config c.args.seat.now.place.terms c.args.have.now c.in-Some.lent
    c.requires.can.config c.requires.can.terms c.requires.have ((c.lent_of.ensures c.in-Some.lent).0 c.in-Some.is).0 in
    if-each c.shared_wait.result (λ wait is. wait-some c.in-Some.lent wait valid (inr (inr
    ((c.shared_wait.ensures wait).0 is).0)))

pub returns-clause-tried : goal.returns-clause-tried
returns-clause-tried g c =
    if-ok-both c.sooner-3.result
    (λ less kept tried other wait lends some candidate small waits.
    let found = (c.lent_of.ensures other).1 (lends, some) in
    let same : other ≡ c.in-Some.lent = (let both : Some other ≡ Some c.in-Some.lent = sym found ∙ c.in-Some.is
    in cc) in
    elim (subst (λ v. IsWait v wait) same candidate) [
      | inl own ↦ kept wait (c.in_ok-least-2.ensures.kept wait
          (c.in_ok-least.ensures.tried wait ((c.own_period.ensures wait).1 own) small waits))
      | inr (inl spans) ↦ kept wait (c.in_ok-least-2.ensures.tried wait ((c.block_wait.ensures wait).1 spans)
          small waits)
      | inr (inr shares) ↦ tried wait ((c.shared_wait.ensures wait).1 (shares, small)) small waits
    ]) c.sooner-3.ensures.kept c.sooner-3.ensures.tried
