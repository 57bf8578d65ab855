use Rattle.std.proofs.Common.{inl, inr, refl, sym, ◌∙◌, subst}
use Rattle.hls_offer_asks.specs.Inside.Trying.{IsDoneBehind}
use Rattle.hls_offer_asks.proofs.Telling.{told_done, told_refused}
use Rattle.hls_offer_asks.proofs.needs.try_from.Goals as goal

pub returns-in_default : goal.returns-in_default
returns-in_default g c = λ m at.
    inl (
      refl,
      told_done m c.args.need.now c.args.on.now c.args.terms c.in_ok-answer_on.field-0
          (sym c.refusal_of.ensures ∙ c.in_default.is) (c.in_ok-answer_on.ensures m at),
    )

pub returns-in-Some-2 : goal.returns-in-Some-2
returns-in-Some-2 g c = λ m at.
    inr (
      c.in-Some.refusal,
      told_refused m c.args.need.now c.args.on.now c.args.terms c.in_ok-answer_on.field-0 c.in-Some.refusal
          (sym c.refusal_of.ensures ∙ c.in-Some.is) (c.in_ok-answer_on.ensures m at),
      subst (λ o. IsDoneBehind m c.args.need.now c.args.on.now c.args.terms o) c.in-Some-2.is
          (c.in_ok-later.ensures m at),
    )

pub returns-in-None : goal.returns-in-None
returns-in-None g c = λ m at. (
  refl,
  told_refused m c.args.need.now c.args.on.now c.args.terms c.in_ok-answer_on.field-0 c.in-Some.refusal
      (sym c.refusal_of.ensures ∙ c.in-Some.is) (c.in_ok-answer_on.ensures m at),
  subst (λ o. IsDoneBehind m c.args.need.now c.args.on.now c.args.terms o) c.in-None.is
      (c.in_ok-later.ensures m at),
)
