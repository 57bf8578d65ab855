-- A command that is put into a scenario, and its answer in the legal reports of that.
use Rattle.std.specs.Prelude.{◌≡◌, ℕ, ◌-◌, List, [], ◌∷◌, ◌++◌, Some, filter, length, nat_le, not, slice_get}
use Rattle.hls_scenario.specs.declared.scenario.Command.{Command}
use Rattle.hls_scenario.specs.declared.scenario.Item.{Item}
use Rattle.hls_scenario.specs.declared.scenario.Scenario.{Scenario}
use Rattle.hls_report_text.specs.declared.report.Seated.{Seated}
use Rattle.hls_report_text.specs.declared.report.Answer.TheVariants.{Done}
use Rattle.hls_report_text.specs.declared.report.Answered.{Answered}
use Rattle.hls_report_text.specs.Content.{Content}
use Rattle.hls_report_text.specs.ReportText.{item_of}
use Rattle.hls_legal.specs.Moment.{Boxes}
use Rattle.hls_legal.specs.Legal.{IsLegalContent}
use Rattle.hls_offer.specs.Moments.{items_to}

abbrev pub item_at : (tick : ℕ) → Command → Item
item_at tick command = record { tick = tick; command = command }

-- the items whose ticks are later
abbrev pub items_behind : (tick : ℕ) → List Item → List Item
items_behind tick items = filter (λ (item : Item). not (nat_le item.tick tick)) items

-- the scenario up to a tick, and this command of the tick behind it
abbrev pub scenario_to : Scenario → (tick : ℕ) → Command → Scenario
scenario_to s tick command = record s { items = items_to tick s.items ++ item_at tick command ∷ [] }

-- the whole scenario, with the command put in behind its items up to the tick
abbrev pub scenario_with : Scenario → (tick : ℕ) → Command → Scenario
scenario_with s tick command =
    record s { items = items_to tick s.items ++ item_at tick command ∷ items_behind tick s.items }

-- the item stands at a place of the report, and is answered done
pub record IsDoneAt (c : Content) (place : ℕ) (item : Item) : Type 0 where
  pub answered : Answered
  pub there : slice_get c.answered place ≡ Some answered
  pub item_is : item_of answered ≡ item
  pub seats : List Seated
  pub done : answered.answer ≡ Done seats

-- in every legal report of the first scenario the last answer is done, and in every one of the other that command's is
pub record IsDoneInReports (s : Scenario) (given : ℕ) (boxes : Boxes) (tick : ℕ) (command : Command) : Type 0 where
  pub last : (c : Content) → IsLegalContent (scenario_to s tick command) given boxes c
      → IsDoneAt c (length c.answered - 1) (item_at tick command)
  pub put_in : (c : Content) → IsLegalContent (scenario_with s tick command) given boxes c
      → IsDoneAt c (length (items_to tick s.items)) (item_at tick command)
