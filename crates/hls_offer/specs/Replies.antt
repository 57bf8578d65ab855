-- What is written about the text of a scenario, and at which status.
use Rattle.std.specs.Prelude.{◌≡◌, ℕ, ◌+◌, ◌⊎◌, Bool, Option, length, unwrap_or, if◌then◌else◌}
use Rattle.hls_io.specs.declared.status.Status.{Status}
use Rattle.hls_io.specs.declared.status.Status.TheVariants as statuses
use Rattle.hls_text.specs.Lines.{Text, lines_of}
use Rattle.hls_scenario.specs.declared.scenario.Scenario.{Scenario}
use Rattle.hls_scenario.specs.Grammar.{IsScenarioText}
use Rattle.hls_lang.specs.declared.fault.Cause.{Cause}
use Rattle.hls_legal.specs.Moment.{Boxes, Moment}
use Rattle.hls_top.specs.Refusing.{RefusesScenario, refusal_line, cause_text}
use Rattle.hls_offer_text.specs.OfferText.{answer_text}
use Rattle.hls_offer_words.specs.declared.asked.Question.{Question}
use Rattle.hls_offer_words.specs.declared.asked.Question.TheVariants.{Offer, Need, Spare}
use Rattle.hls_offer_words.specs.declared.asked.Asked.{Asked}
use Rattle.hls_offer.specs.Moments.{asked_tick, IsBadTick, IsGoodTick, IsMoment}
use Rattle.hls_offer.specs.Told.{Told, IsTold}

-- the depth where neither words nor scenario state one
abbrev pub usual_depth : ℕ
usual_depth = 3

abbrev pub given_depth : Option ℕ → ℕ
given_depth stated = unwrap_or stated usual_depth

-- the status tells whether a seat is offered; what is left offers none, and is told all the same
abbrev pub status_of : Question → (offers : Bool) → Status
status_of (Offer name on terms) offers = if offers then statuses.Done else statuses.Broken
status_of (Need name wanted on) offers = if offers then statuses.Done else statuses.Broken
status_of Spare offers = statuses.Done

-- the output answers a question at a tick of a scenario, between a head and an end, and this is its status
pub record Tells (a : Asked) (s : Scenario) (boxes : Boxes) (tick : ℕ) (status : Status) (output : Text) : Type 0
  where
    pub m : Moment
    pub moment : IsMoment s (given_depth a.depth) boxes tick m
    pub told : Told
    pub is : IsTold s.version a.question m tick a.periods told
    pub status_is : status ≡ status_of a.question told.offers
    pub spelled : output ≡ answer_text tick m.depth told.lines

-- it is answered of the scenario whose text the bytes are, at the tick that is asked about
pub record Replies (a : Asked) (boxes : Boxes) (bytes : Text) (status : Status) (output : Text) : Type 0 where
  pub scenario : Scenario
  pub read : IsScenarioText bytes scenario
  pub good : IsGoodTick scenario (asked_tick a.at scenario.items)
  pub tells : Tells a scenario boxes (asked_tick a.at scenario.items) status output

-- the tick cannot be asked about: the line that an answer would take is refused
pub record RefusesTick (a : Asked) (bytes output : Text) : Type 0 where
  pub scenario : Scenario
  pub read : IsScenarioText bytes scenario
  pub cause : Cause
  pub bad : IsBadTick scenario (asked_tick a.at scenario.items) cause
  pub spelled : output ≡ refusal_line (length (lines_of bytes) + 1) (cause_text cause)

-- the output on these bytes
abbrev pub IsReply : Asked → Boxes → (bytes : Text) → Status → (output : Text) → Type 0
IsReply a boxes bytes statuses.Done output = Replies a boxes bytes statuses.Done output
IsReply a boxes bytes statuses.Broken output = Replies a boxes bytes statuses.Broken output
IsReply a boxes bytes statuses.RefusedText output = RefusesScenario bytes output ⊎ RefusesTick a bytes output
IsReply a boxes bytes _ output = ⊥
