-- The answers that must come follow from how a run ends.
use Rattle.std.proofs.Common.{◌≡◌, ◌<◌, ◌≤◌, Bool, true, false, length, refl, ap, subst, arith, inl, inr}
use Rattle.std.specs.Prelude.{◌⊎◌, List}
use Rattle.hls_io.specs.declared.status.Status.{Status}
use Rattle.hls_io.specs.declared.status.Status.TheVariants.{Done, Broken, Usage, RefusedText, ReadFault}
use Rattle.hls_io.specs.declared.status.Status.TheVariants.{WriteFault, Memory, TooLong}
use Rattle.hls_text.specs.Lines.{Text}
use Rattle.hls_scenario.specs.declared.scenario.Scenario.{Scenario}
use Rattle.hls_scenario.specs.Grammar.{IsScenarioText}
use Rattle.hls_lang.proofs.OneText.{text_of_one}
use Rattle.hls_legal.specs.Moment.{Boxes}
use Rattle.hls_top.specs.Exchange.{Exchange, scenario_limit, IsFaultless}
use Rattle.hls_top.specs.Ends.{IsTooLong}
use Rattle.hls_top.specs.Refusing.{IsNoScenarioText}
use Rattle.hls_top.specs.Musts.{OrMemory}
use Rattle.hls_top.proofs.Outcomes.{read_is, not_past}
use Rattle.hls_offer_words.specs.Table.{IsAsked, IsNotAsked}
use Rattle.hls_offer_words.specs.declared.asked.Question.{Question}
use Rattle.hls_offer_words.specs.declared.asked.Question.TheVariants.{Offer, Need, Spare}
use Rattle.hls_offer_words.specs.declared.asked.Asked.{Asked}
use Rattle.hls_offer.specs.Moments.{asked_tick, IsBadTick, IsGoodTick}
use Rattle.hls_offer.specs.Replies.{status_of, Replies, IsReply}
use Rattle.hls_offer.specs.Ends.{IsOfQuestion, Ends}
use Rattle.hls_offer.specs.Musts.{Came, IsAnswered, Judges, MustAnswer}

-- ---- what a reply tells of its status

-- a reply at this status answers the question
answered_so : (q : Question) (offers : Bool) (status : Status) → status ≡ status_of q offers → IsAnswered q status
answered_so (Offer name on terms) true status e = inl e
answered_so (Offer name on terms) false status e = inr e
answered_so (Need name wanted on) true status e = inl e
answered_so (Need name wanted on) false status e = inr e
answered_so Spare offers status e = e

told_well : (words : List Text) (a : Asked) (boxes : Boxes) (bytes : Text) (status : Status) (output : Text)
    (s : Scenario) → IsAsked words a → Replies a boxes bytes status output → IsScenarioText bytes s
    → Judges words s status
told_well words a boxes bytes status output s asks is text =
    let same = text_of_one bytes is.scenario s is.read text in
    record {
      asked = a;
      asks = asks;
      status_is = inl (
        answered_so a.question is.tells.told.offers status is.tells.status_is,
        subst (λ (t : Scenario). IsGoodTick t (asked_tick a.at t.items)) same is.good,
      );
    }

judged : (words : List Text) (a : Asked) (boxes : Boxes) (bytes : Text) (status : Status) (output : Text)
    (s : Scenario) → IsAsked words a → IsReply a boxes bytes status output → IsScenarioText bytes s
    → Judges words s status
judged words a boxes bytes Done output s asks is text = told_well words a boxes bytes Done output s asks is text
judged words a boxes bytes Broken output s asks is text = told_well words a boxes bytes Broken output s asks is text
judged words a boxes bytes RefusedText output s asks (inl is) text = absurd (is.none s text)
judged words a boxes bytes RefusedText output s asks (inr is) text =
    let same = text_of_one bytes is.scenario s is.read text in
    record {
      asked = a;
      asks = asks;
      status_is = inr (
        refl,
        is.cause,
        subst (λ (t : Scenario). IsBadTick t (asked_tick a.at t.items) is.cause) same is.bad,
      );
    }
judged words a boxes bytes Usage output s asks is text = absurd is
judged words a boxes bytes ReadFault output s asks is text = absurd is
judged words a boxes bytes WriteFault output s asks is text = absurd is
judged words a boxes bytes Memory output s asks is text = absurd is
judged words a boxes bytes TooLong output s asks is text = absurd is

refused : (a : Asked) (boxes : Boxes) (bytes : Text) (status : Status) (output : Text)
    → IsReply a boxes bytes status output → IsNoScenarioText bytes → status ≡ RefusedText
refused a boxes bytes Done output is none = absurd (none is.scenario is.read)
refused a boxes bytes RefusedText output is none = refl
refused a boxes bytes Broken output is none = absurd (none is.scenario is.read)
refused a boxes bytes Usage output is none = absurd is
refused a boxes bytes ReadFault output is none = absurd is
refused a boxes bytes WriteFault output is none = absurd is
refused a boxes bytes Memory output is none = absurd is
refused a boxes bytes TooLong output is none = absurd is

-- ---- what words of a question may come to

record HasReply (x : Exchange) (status : Status) : Type 0 where
  output : Text
  is : IsOfQuestion x status output

record HasLength (x : Exchange) (status : Status) : Type 0 where
  status_is : status ≡ TooLong
  long : IsTooLong scenario_limit x.source

-- memory was wanting, or the text was too long, or there was a reply
abbrev Comes : Exchange → Status → Type 0
Comes x status = (status ≡ Memory) ⊎ (HasLength x status ⊎ HasReply x status)

comes : (x : Exchange) (status : Status) → Ends x status → IsFaultless x → (a : Asked) → IsAsked x.words a
    → Comes x status
comes x Done h quiet a words = inr (inr record { output = h.output; is = h.due })
comes x RefusedText h quiet a words = inr (inr record { output = h.output; is = h.due })
comes x Usage h quiet a words = absurd (h.due.words a words)
comes x ReadFault h quiet a words = absurd (quiet.reads h.lacks)
comes x WriteFault h quiet a words = absurd (quiet.writes h.write_failed)
comes x Memory h quiet a words = inl refl
comes x TooLong h quiet a words = inr (inl record { status_is = refl; long = h.lacks })
comes x Broken h quiet a words = inr (inr record { output = h.output; is = h.due })

-- ---- line by line

module _ (x : Exchange) (status : Status) (h : Ends x status) where
  answers : (bytes : Text) (s : Scenario) → Came x bytes → IsScenarioText bytes s → length bytes ≤ scenario_limit
      → OrMemory status (Judges x.words s status)
  answers bytes s came text small = elim (comes x status h came.faultless came.asked came.words) [
    | inl memory ↦ inr memory
    | inr (inl long) ↦ absurd (not_past scenario_limit x.source bytes came.told long.long small)
    | inr (inr due) ↦ inl (judged x.words due.is.asked x.boxes due.is.bytes status due.output s due.is.words
        due.is.reply
        (subst (λ bs. IsScenarioText bs s) (read_is x.source bytes due.is.bytes came.told due.is.whole) text))
  ]

  refuses_text : (bytes : Text) → Came x bytes → IsNoScenarioText bytes → length bytes ≤ scenario_limit
      → OrMemory status (status ≡ RefusedText)
  refuses_text bytes came none small = elim (comes x status h came.faultless came.asked came.words) [
    | inl memory ↦ inr memory
    | inr (inl long) ↦ absurd (not_past scenario_limit x.source bytes came.told long.long small)
    | inr (inr due) ↦ inl (refused due.is.asked x.boxes due.is.bytes status due.output due.is.reply
        (subst IsNoScenarioText (read_is x.source bytes due.is.bytes came.told due.is.whole) none))
  ]

  refuses_length : (bytes : Text) → Came x bytes → scenario_limit < length bytes
      → OrMemory status (status ≡ TooLong)
  refuses_length bytes came long = elim (comes x status h came.faultless came.asked came.words) [
    | inl memory ↦ inr memory
    | inr (inl past) ↦ inl past.status_is
    | inr (inr due) ↦ absurd
        (let count : length bytes ≡ length due.is.bytes =
        ap (λ (bs : Text). length bs) (read_is x.source bytes due.is.bytes came.told due.is.whole) in
        let small : length due.is.bytes ≤ scenario_limit = due.is.within in
        omega (arith, count, small, long))
  ]

refuses_words : (x : Exchange) (status : Status) → Ends x status → IsNotAsked x.words → IsFaultless x
    → OrMemory status (status ≡ Usage)
refuses_words x Done h none quiet = absurd (none h.due.asked h.due.words)
refuses_words x RefusedText h none quiet = absurd (none h.due.asked h.due.words)
refuses_words x Usage h none quiet = inl refl
refuses_words x ReadFault h none quiet = absurd (none h.asked h.words)
refuses_words x TooLong h none quiet = absurd (none h.asked h.words)
refuses_words x WriteFault h none quiet = absurd (quiet.writes h.write_failed)
refuses_words x Memory h none quiet = inr refl
refuses_words x Broken h none quiet = absurd (none h.due.asked h.due.words)

pub must_answer : (x : Exchange) (status : Status) → Ends x status → MustAnswer x status
must_answer x status h = record {
  answers = answers x status h;
  refuses_text = refuses_text x status h;
  refuses_length = refuses_length x status h;
  refuses_words = refuses_words x status h;
}
