use Rattle.std.proofs.Common.{None, sym, ◌∙◌, subst}
use Rattle.std.specs.Prelude.{option_copied}
use Rattle.hls_report_text.specs.declared.refusal.Refusal.TheVariants.{NoDerivation}
use Rattle.hls_offer_asks.specs.declared.needs.Had.TheVariants.{Refused}
use Rattle.hls_offer_asks.specs.Needs.{IsHad}
use Rattle.hls_offer_asks.specs.Inside.Trying.{IsDerivedFirst}
use Rattle.hls_offer_asks.proofs.Standing.{is_moment, moment_of, ok_so}
use Rattle.hls_offer_asks.proofs.Telling.{first_formed}
use Rattle.hls_offer_asks.proofs.Trying.{tried_had, tried_nowhere, underived_had, underived_nowhere}
use Rattle.hls_offer_asks.proofs.needs.need_at.Goals as goal

pub try_from-requires-clause-terms : goal.try_from-requires-clause-terms
try_from-requires-clause-terms g c =
    let m = moment_of _ c.args.core.now c.requires.runs in
    let at = is_moment _ c.args.core.now c.requires.runs in
    first_formed m at.reached c.args.need.now c.args.on.now _ (c.requires.unbarred m at) c.in-Some.terms
    (subst (λ o. IsDerivedFirst m c.args.need.now c.args.on.now (option_copied c.args.periods) o) c.in-Some.is
    (c.in_ok-terms.ensures m at))

pub returns-in-Some-clause-is : goal.returns-in-Some-clause-is
returns-in-Some-clause-is g c =
    ok_so c.try_from.result _ _ (λ had tried m at.
    tried_had m at.reached c.args.need.now c.args.on.now _ (c.requires.unbarred m at) c.in-Some.terms
    (subst (λ o. IsDerivedFirst m c.args.need.now c.args.on.now (option_copied c.args.periods) o) c.in-Some.is
    (c.in_ok-terms.ensures m at)) had (tried m at)) c.try_from.ensures

pub returns-in-Some-clause-nowhere : goal.returns-in-Some-clause-nowhere
returns-in-Some-clause-nowhere g c =
    ok_so c.try_from.result _ _ (λ had tried m at.
    tried_nowhere m at.reached c.args.need.now c.args.on.now _ (c.requires.unbarred m at) c.in-Some.terms
    (subst (λ o. IsDerivedFirst m c.args.need.now c.args.on.now (option_copied c.args.periods) o) c.in-Some.is
    (c.in_ok-terms.ensures m at)) had (tried m at)) c.try_from.ensures

pub returns-in-None-clause-is : goal.returns-in-None-clause-is
returns-in-None-clause-is g c = λ m at.
    subst (λ n. IsHad m c.args.need.now c.args.on.now (option_copied c.args.periods)
    (Refused None (NoDerivation c.args.need.now.name n)))
    (at.depth ∙ sym c.depth.ensures)
    (underived_had m at.reached c.args.need.now c.args.on.now _ (c.requires.unbarred m at)
    (subst (λ o. IsDerivedFirst m c.args.need.now c.args.on.now (option_copied c.args.periods) o) c.in-None.is
    (c.in_ok-terms.ensures m at)))

pub returns-in-None-clause-nowhere : goal.returns-in-None-clause-nowhere
returns-in-None-clause-nowhere g c = λ m at.
    underived_nowhere m at.reached c.args.need.now c.args.on.now _ (c.requires.unbarred m at)
    (subst (λ o. IsDerivedFirst m c.args.need.now c.args.on.now (option_copied c.args.periods) o) c.in-None.is
    (c.in_ok-terms.ensures m at))
