use Rattle.std.proofs.Common.{◌≡◌, inl, inr, sym, ◌∙◌, subst}
use Rattle.std.specs.Prelude.{Some}
use Rattle.hls_guarantee.specs.Limits.{IsValid}
use Rattle.hls_offer_laws.specs.Candidates.{IsWindow}
use Rattle.hls_offer_laws.proofs.WindowLaws.{window-size}
use Rattle.hls_offer_best.proofs.Trying.{if-each, if-ok-both, lent-of-valid}
use Rattle.hls_offer_best.proofs.windows.through_port.Goals as goal

pub own_ticks-requires : goal.own_ticks-requires
own_ticks-requires g c =
    let seat = c.args.window.now.seat in
    let lent = c.in-Some.lent in
    lent-of-valid seat.place.config seat.place.terms c.args.have.now lent
    c.requires.can.seat.config c.requires.can.seat.terms c.requires.have ((c.lent_of.ensures lent).0 c.in-Some.is).0

pub greater-requires-clause-size : goal.greater-requires-clause-size
greater-requires-clause-size g c =
    let seat = c.args.window.now.seat in
    let lent = c.in-Some.lent in
    let valid : IsValid lent = lent-of-valid seat.place.config seat.place.terms c.args.have.now lent
    c.requires.can.seat.config c.requires.can.seat.terms c.requires.have ((c.lent_of.ensures lent).0 c.in-Some.is).0 in
    if-each c.own_ticks.result (λ x is.
    window-size lent x c.args.window.now.y valid c.requires.can.size (inl ((c.own_ticks.ensures x).0 is)))

pub block_ticks-requires : goal.block_ticks-requires
block_ticks-requires g c =
    let seat = c.args.window.now.seat in
    let lent = c.in-Some.lent in
    lent-of-valid seat.place.config seat.place.terms c.args.have.now lent
    c.requires.can.seat.config c.requires.can.seat.terms c.requires.have ((c.lent_of.ensures lent).0 c.in-Some.is).0

pub greater-requires-2-clause-size : goal.greater-requires-2-clause-size
greater-requires-2-clause-size g c =
    let seat = c.args.window.now.seat in
    let lent = c.in-Some.lent in
    let valid : IsValid lent = lent-of-valid seat.place.config seat.place.terms c.args.have.now lent
    c.requires.can.seat.config c.requires.can.seat.terms c.requires.have ((c.lent_of.ensures lent).0 c.in-Some.is).0 in
    if-each c.block_ticks.result (λ x is.
    window-size lent x c.args.window.now.y valid c.requires.can.size (inr (inl ((c.block_ticks.ensures x).0 is))))

pub shared_ticks-requires-clause-lent : goal.shared_ticks-requires-clause-lent
shared_ticks-requires-clause-lent g c =
    let seat = c.args.window.now.seat in
    let lent = c.in-Some.lent in
    lent-of-valid seat.place.config seat.place.terms c.args.have.now lent
    c.requires.can.seat.config c.requires.can.seat.terms c.requires.have ((c.lent_of.ensures lent).0 c.in-Some.is).0

pub greater-requires-3-clause-size : goal.greater-requires-3-clause-size
greater-requires-3-clause-size g c =
    let seat = c.args.window.now.seat in
    let lent = c.in-Some.lent in
    let valid : IsValid lent = lent-of-valid seat.place.config seat.place.terms c.args.have.now lent
    c.requires.can.seat.config c.requires.can.seat.terms c.requires.have ((c.lent_of.ensures lent).0 c.in-Some.is).0 in
    if-each c.shared_ticks.result (λ x is.
    window-size lent x c.args.window.now.y valid c.requires.can.size (inr (inr ((c.shared_ticks.ensures x).0 is))))

pub returns-clause-tried : goal.returns-clause-tried
returns-clause-tried g c =
    if-ok-both c.greater-3.result
    (λ more kept tried other x lends some candidate gives.
    let found = (c.lent_of.ensures other).1 (lends, some) in
    let same : other ≡ c.in-Some.lent = (let both : Some other ≡ Some c.in-Some.lent = sym found ∙ c.in-Some.is
    in cc) in
    elim (subst (λ v. IsWindow v x c.args.window.now.y) same candidate) [
      | inl own ↦ kept x (c.in_ok-most-2.ensures.kept x
          (c.in_ok-most.ensures.tried x ((c.own_ticks.ensures x).1 own) gives))
      | inr (inl spans) ↦ kept x (c.in_ok-most-2.ensures.tried x ((c.block_ticks.ensures x).1 spans) gives)
      | inr (inr shares) ↦ tried x ((c.shared_ticks.ensures x).1 shares) gives
    ]) c.greater-3.ensures.kept c.greater-3.ensures.tried
