-- The legal reports of a scenario, where the kit has these boxes and this depth is given.
use Rattle.std.specs.Prelude.{◌≡◌, ℕ, List, Option, Some, None, map}
use Rattle.hls_scenario.specs.declared.scenario.Scenario.{Scenario}
use Rattle.hls_report_text.specs.declared.report.Report.{Report}
use Rattle.hls_report_text.specs.Content.{Content, content_of}
use Rattle.hls_report_text.specs.ReportText.{item_of}
use Rattle.hls_report_text.specs.WellFormed.{IsContent, IsWellFormed}
use Rattle.hls_machine.specs.Hierarchy.{start}
use Rattle.hls_machine.specs.Steps.{Step}
use Rattle.hls_machine.specs.Legal.{IsLegal}
use Rattle.hls_legal.specs.Accounts.{accounts_of, idle_of}
use Rattle.hls_legal.specs.Tells.{Tells}
use Rattle.hls_legal.specs.Moment.{Boxes}
use Rattle.hls_legal.specs.Along.{AnswersAlong}

-- the depth in force: what the scenario states, or else the one that is given
abbrev pub depth_in_force : (given : ℕ) → Option ℕ → ℕ
depth_in_force given None = given
depth_in_force given (Some depth) = depth

-- a legal run that the report tells, in which each command has its defined answer
pub record IsRun (depth : ℕ) (boxes : Boxes) (c : Content) (steps : List Step) : Type 0 where
  pub legal : IsLegal start steps
  pub tells : Tells c steps
  pub answers : AnswersAlong depth start boxes steps c.answered

-- The report is of the scenario and tells such a run, with the accounts and the idle ticks that come of it.
pub record IsLegalContent (s : Scenario) (given : ℕ) (boxes : Boxes) (c : Content) : Type 0 where
  pub formed : IsContent c
  pub version : c.version ≡ s.version
  pub horizon : c.horizon ≡ s.horizon
  pub depth : c.depth ≡ depth_in_force given s.depth
  pub commands : map item_of c.answered ≡ s.items
  pub steps : List Step
  pub run : IsRun c.depth boxes c steps
  pub accounts : c.accounts ≡ accounts_of c
  pub idle : c.idle ≡ idle_of c

pub record IsLegalReport (s : Scenario) (given : ℕ) (boxes : Boxes) (r : Report) : Type 0 where
  pub formed : IsWellFormed r
  pub legal : IsLegalContent s given boxes (content_of r)
