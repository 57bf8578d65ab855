-- What was told of a scenario is the reply to a question.
use Rattle.std.proofs.Common.{◌≡◌, ℕ, Bool, true, false, List, sym, ap, ◌∙◌, subst}
use Rattle.hls_io.specs.declared.status.Status.{Status}
use Rattle.hls_text.specs.Lines.{Text}
use Rattle.hls_scenario.specs.declared.scenario.Item.{Item}
use Rattle.hls_scenario.specs.declared.scenario.Scenario.{Scenario}
use Rattle.hls_scenario.specs.Grammar.{IsScenarioText}
use Rattle.hls_legal.specs.Moment.{Boxes}
use Rattle.hls_offer_words.specs.declared.asked.Question.{Question}
use Rattle.hls_offer_words.specs.declared.asked.Question.TheVariants.{Offer, Need, Spare}
use Rattle.hls_offer_words.specs.declared.asked.Asked.{Asked}
use Rattle.hls_offer.specs.Moments.{asked_tick, IsGoodTick}
use Rattle.hls_offer.specs.Replies.{status_of, Tells, Replies, IsReply}

reply_of : (a : Asked) (boxes : Boxes) (bytes output : Text) (q : Question) (offers : Bool)
    → Replies a boxes bytes (status_of q offers) output → IsReply a boxes bytes (status_of q offers) output
reply_of a boxes bytes output (Offer name on terms) true is = is
reply_of a boxes bytes output (Offer name on terms) false is = is
reply_of a boxes bytes output (Need name wanted on) true is = is
reply_of a boxes bytes output (Need name wanted on) false is = is
reply_of a boxes bytes output Spare offers is = is

pub replied : (a : Asked) (s : Scenario) (boxes : Boxes) (bytes : Text) (status : Status) (output : Text)
    (items : List Item) (tick : ℕ) → items ≡ s.items → tick ≡ asked_tick a.at items → IsScenarioText bytes s
    → IsGoodTick s tick → Tells a s boxes tick status output → IsReply a boxes bytes status output
replied a s boxes bytes status output items tick same at read good tells =
    let asked : tick ≡ asked_tick a.at s.items = at ∙ ap (λ (is : List Item). asked_tick a.at is) same in
    let is : Replies a boxes bytes status output = record {
      scenario = s;
      read = read;
      good = subst (λ (t : ℕ). IsGoodTick s t) asked good;
      tells = subst (λ (t : ℕ). Tells a s boxes t status output) asked tells;
    } in
    subst (λ (t : Status). IsReply a boxes bytes t output) (sym tells.status_is)
    (reply_of a boxes bytes output a.question tells.told.offers
    (subst (λ (t : Status). Replies a boxes bytes t output) tells.status_is is))
