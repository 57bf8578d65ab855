-- The moment behind what a report tells, and the answer of a command in a report.
use Rattle.std.specs.Prelude.{◌≡◌, ℕ, List, Some, slice_get}
use Rattle.hls_scenario.specs.declared.scenario.Item.{Item}
use Rattle.hls_report_text.specs.declared.report.Answered.{Answered}
use Rattle.hls_report_text.specs.Content.{Content}
use Rattle.hls_report_text.specs.ReportText.{item_of}
use Rattle.hls_machine.specs.Hierarchy.{start}
use Rattle.hls_machine.specs.Steps.{Step, state}
use Rattle.hls_legal.specs.Moment.{Boxes, Moment}
use Rattle.hls_legal.specs.Answers.{IsAnswer}
use Rattle.hls_legal.specs.Kit.{boxes_left}

-- where the steps lead that a report tells, with the boxes that its commands have left
abbrev pub moment_behind : (depth : ℕ) → Boxes → Content → List Step → Moment
moment_behind depth boxes c steps =
    record { hierarchy = state start steps; boxes = boxes_left boxes c.answered; depth = depth }

-- the item stands at a place of the report, with its defined answer at the moment
pub record IsAnsweredAt (m : Moment) (c : Content) (at : ℕ) (item : Item) : Type 0 where
  pub answered : Answered
  pub there : slice_get c.answered at ≡ Some answered
  pub item_is : item_of answered ≡ item
  pub answer : IsAnswer m item.command answered.answer
