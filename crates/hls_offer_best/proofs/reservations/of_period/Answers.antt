use Rattle.std.proofs.Common.{inl, inr, refl, sym, subst}
use Rattle.std.specs.Prelude.{Contains}
use Rattle.hls_offer_best.specs.Inside.Trying.{budget}
use Rattle.hls_offer_best.proofs.Trying.{if-each, if-ok-both}
use Rattle.hls_offer_best.proofs.Budgets.{ranged, if-ok-at}
use Rattle.hls_offer_best.proofs.reservations.of_period.Goals as goal

pub cheaper-requires-clause-range : goal.cheaper-requires-clause-range
cheaper-requires-clause-range g c =
    if-each c.budget_of-direct.result (λ b is.
    let both = (c.budget_of-direct.ensures b).0 is in
    let size = (c.direct_size.ensures b.x).0 both.0 in
    ranged c.args.need.now.wanted b c.args.y c.requires.can.wanted c.requires.some c.requires.size both.1
    (inl size.0) size.1)

pub cheaper-requires-2-clause-range : goal.cheaper-requires-2-clause-range
cheaper-requires-2-clause-range g c =
    if-each c.budget_of-spread.result (λ b is.
    let both = (c.budget_of-spread.ensures b).0 is in
    let size = (c.spread_size.ensures b.x).0 both.0 in
    ranged c.args.need.now.wanted b c.args.y c.requires.can.wanted c.requires.some c.requires.size both.1
    (inr size.0) size.1)

pub returns-clause-had : goal.returns-clause-had
returns-clause-had g c = λ periods has so_far.
    c.cheaper-2.ensures.had periods
    (if-each c.budget_of-spread.result (λ b is.
    let both = (c.budget_of-spread.ensures b).0 is in subst (λ v. Contains periods v) (sym both.1) has))
    (if-ok-at _ c.cheaper.result c.in_ok-best.best c.in_ok-best.was (c.cheaper.ensures.had periods
    (if-each c.budget_of-direct.result (λ b is.
    let both = (c.budget_of-direct.ensures b).0 is in subst (λ v. Contains periods v) (sym both.1) has)) so_far))

pub returns-clause-tried : goal.returns-clause-tried
returns-clause-tried g c =
    if-ok-both c.cheaper-2.result
    (λ less kept tried x size le meets.
    let b = budget x c.args.y in
    elim size [
      | inl direct ↦ kept b (c.in_ok-best.ensures.tried b
          ((c.budget_of-direct.ensures b).1 ((c.direct_size.ensures x).1 (direct, le), refl)) meets)
      | inr spread ↦ tried b
          ((c.budget_of-spread.ensures b).1 ((c.spread_size.ensures x).1 (spread, le), refl)) meets
    ]) c.cheaper-2.ensures.kept c.cheaper-2.ensures.tried
