-- The answers that must come, unless memory is wanting, where no fault is counted.
use Rattle.std.specs.Prelude.{◌≡◌, ◌≤◌, ◌<◌, ◌⊎◌, length, List, Some}
use Rattle.hls_io.specs.declared.status.Status.{Status}
use Rattle.hls_io.specs.declared.status.Status.TheVariants.{Done, Broken, Usage, RefusedText, TooLong}
use Rattle.hls_text.specs.Lines.{Text}
use Rattle.hls_scenario.specs.declared.scenario.Scenario.{Scenario}
use Rattle.hls_scenario.specs.Grammar.{IsScenarioText}
use Rattle.hls_lang.specs.declared.fault.Cause.{Cause}
use Rattle.hls_top.specs.Exchange.{Exchange, scenario_limit, IsFaultless}
use Rattle.hls_top.specs.Refusing.{IsNoScenarioText}
use Rattle.hls_top.specs.Musts.{OrMemory}
use Rattle.hls_offer_words.specs.Table.{IsAsked, IsNotAsked}
use Rattle.hls_offer_words.specs.declared.asked.Question.{Question}
use Rattle.hls_offer_words.specs.declared.asked.Question.TheVariants.{Offer, Need, Spare}
use Rattle.hls_offer_words.specs.declared.asked.Asked.{Asked}
use Rattle.hls_offer.specs.Moments.{asked_tick, IsBadTick, IsGoodTick}

-- words that ask a question came with these bytes, and no fault was counted
pub record Came (x : Exchange) (bytes : Text) : Type 0 where
  pub asked : Asked
  pub words : IsAsked x.words asked
  pub told : x.source.left ≡ Some bytes
  pub faultless : IsFaultless x

-- a question is answered, and what is left is always told
abbrev pub IsAnswered : Question → Status → Type 0
IsAnswered (Offer name on terms) status = (status ≡ Done) ⊎ (status ≡ Broken)
IsAnswered (Need name wanted on) status = (status ≡ Done) ⊎ (status ≡ Broken)
IsAnswered Spare status = status ≡ Done

-- the question is answered where the tick that the words ask about can be asked about; where it cannot, the status is
-- RefusedText
pub record Judges (words : List Text) (s : Scenario) (status : Status) : Type 0 where
  pub asked : Asked
  pub asks : IsAsked words asked
  pub status_is : (IsAnswered asked.question status × IsGoodTick s (asked_tick asked.at s.items))
      ⊎ ((status ≡ RefusedText) × (cause : Cause) × IsBadTick s (asked_tick asked.at s.items) cause)

pub record MustAnswer (x : Exchange) (status : Status) : Type 0 where
  -- of a scenario's text within the limit the question is answered, or the tick is refused
  pub answers : (bytes : Text) (s : Scenario) → Came x bytes → IsScenarioText bytes s
      → length bytes ≤ scenario_limit → OrMemory status (Judges x.words s status)
  -- another text within the limit is refused
  pub refuses_text : (bytes : Text) → Came x bytes → IsNoScenarioText bytes → length bytes ≤ scenario_limit
      → OrMemory status (status ≡ RefusedText)
  -- a longer text is refused for its length
  pub refuses_length : (bytes : Text) → Came x bytes → scenario_limit < length bytes
      → OrMemory status (status ≡ TooLong)
  -- words that ask for nothing are refused
  pub refuses_words : IsNotAsked x.words → IsFaultless x → OrMemory status (status ≡ Usage)
