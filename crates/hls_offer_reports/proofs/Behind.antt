-- A line behind a text, in what a run writes about the longer text.
use Rattle.std.proofs.lemmas.Bool.{le-leb}
use Rattle.std.proofs.Common.{◌≡◌, ℕ, ◌-◌, ◌≤◌, List, [], ◌∷◌, ◌++◌, length, refl, sym, ap, ◌∙◌, subst, arith}
use Rattle.std.specs.List.{AllByRecursion}
use Rattle.hls_text.specs.Lines.{Text}
use Rattle.hls_scenario.specs.declared.scenario.Item.{Item}
use Rattle.hls_scenario.specs.declared.scenario.Scenario.{Scenario}
use Rattle.hls_scenario.specs.declared.scenario.Command.{Command}
use Rattle.hls_scenario.specs.Grammar.{IsScenarioText}
use Rattle.hls_lang.proofs.OneText.{text_of_one}
use Rattle.hls_report_text.specs.Content.{Content, content_of}
use Rattle.hls_report_text.specs.ReportText.{item_text, with_end}
use Rattle.hls_legal.specs.Moment.{Boxes}
use Rattle.hls_legal.specs.Legal.{IsLegalContent}
use Rattle.hls_longer_texts.specs.Longer.{with_item, MayFollow}
use Rattle.hls_longer_texts.proofs.Scenarios.{goes_on}
use Rattle.hls_offer.specs.Moments.{items_to, IsGoodTick}
use Rattle.hls_offer_reports.specs.Reports.{item_at, scenario_to, IsDoneAt}
use Rattle.hls_offer_reports.specs.Lines.{IsDoneLine, IsLastDone, IsDoneBehind, MayStandBehind}

all_to : (tick : ℕ) (items : List Item) → AllByRecursion (λ (item : Item). item.tick ≤ tick) items
    → items_to tick items ≡ items
all_to tick [] late = refl
all_to tick (item ∷ items) late =
    let first = le-leb item.tick tick late.0 in
    rw first (ap (λ (rest : List Item). item ∷ rest) (all_to tick items late.1))

module _ (s : Scenario) (given : ℕ) (boxes : Boxes) (tick : ℕ) (bytes : Text) (read : IsScenarioText bytes s)
    (good : IsGoodTick s tick) (may : MayStandBehind bytes s tick) where
  whole : items_to tick s.items ≡ s.items
  whole = all_to tick s.items may.last

  same_scenario : (command : Command) → with_item s (item_at tick command) ≡ scenario_to s tick command
  same_scenario command =
      ap (λ (xs : List Item). with_item (record s { items = xs }) (item_at tick command)) (sym whole)

  follows : (line : Text) (done : IsDoneLine s given boxes tick line) → MayFollow s (item_at tick done.command)
  follows line done = record {
    few = let few = good.few in let count = ap (λ (xs : List Item). length xs) whole in omega (arith, few, count);
    command = done.within;
    early = good.early;
    last = may.last;
  }

  longer : (line : Text) (done : IsDoneLine s given boxes tick line)
      → IsScenarioText (bytes ++ with_end line) (scenario_to s tick done.command)
  longer line done =
      subst (λ (t : Scenario). IsScenarioText (bytes ++ with_end line) t) (same_scenario done.command)
      (subst (λ (l : Text). IsScenarioText (bytes ++ with_end l) (with_item s (item_at tick done.command)))
      (sym done.spelled) (goes_on bytes s (item_at tick done.command) read may.ended (follows line done)))

  last_done : (line : Text) (c : Content) (command : Command) → c.version ≡ s.version
      → line ≡ item_text s.version (item_at tick command)
      → IsDoneAt c (length c.answered - 1) (item_at tick command) → IsLastDone c line
  last_done line c command version spelled done = record {
    answered = done.answered;
    there = done.there;
    line_is = ap (item_text c.version) done.item_is ∙ ap (λ (v : ℕ). item_text v (item_at tick command)) version
        ∙ sym spelled;
    seats = done.seats;
    done = done.done;
  }

  pub stands_behind : (line : Text) → IsDoneLine s given boxes tick line → IsDoneBehind given boxes bytes line
  stands_behind line done = record {
    scenario = scenario_to s tick done.command;
    read = longer line done;
    runs = λ output told.
        let same = text_of_one (bytes ++ with_end line) told.scenario (scenario_to s tick done.command) told.read
        (longer line done) in
        let c = content_of told.report in
        let legal : IsLegalContent (scenario_to s tick done.command) given boxes c =
        subst (λ (t : Scenario). IsLegalContent t given boxes c) same told.legal.legal in
        last_done line c done.command legal.version done.spelled (done.done.last c legal);
  }
