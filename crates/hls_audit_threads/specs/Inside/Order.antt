-- The commands of a report, one by one.
use Rattle.std.specs.Prelude.{◌≡◌, ℕ, ◌≤◌, List, Some, slice_get}
use Rattle.hls_scenario.specs.declared.scenario.Command.{Command}
use Rattle.hls_scenario.specs.Grammar.{IsCommand}
use Rattle.hls_report_text.specs.declared.report.Answered.{Answered}
use Rattle.hls_report_text.specs.WellFormed.{MayAnswer}

-- ticks never fall
abbrev pub AreInOrder : List Answered → Type 0
AreInOrder all = (i j : ℕ) (a b : Answered) → i ≤ j → slice_get all i ≡ Some a → slice_get all j ≡ Some b
    → a.tick ≤ b.tick

-- a command of the grammar, in some version
pub record IsOfGrammar (command : Command) : Type 0 where
  pub version : ℕ
  pub is : IsCommand version command

-- as the grammar of reports has it
pub record IsSound (a : Answered) : Type 0 where
  pub command : IsOfGrammar a.command
  pub answer : MayAnswer a.command a.answer
