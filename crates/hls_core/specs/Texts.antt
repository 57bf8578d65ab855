-- The text of a scenario's report.
use Rattle.std.specs.Prelude.{◌≡◌, ℕ, ◌++◌}
use Rattle.hls_text.specs.Lines.{Text}
use Rattle.hls_scenario.specs.declared.scenario.Scenario.{Scenario}
use Rattle.hls_report_text.specs.declared.report.Report.{Report}
use Rattle.hls_report_text.specs.ReportText.{report_text}
use Rattle.hls_core_journal.specs.Schedule.{schedule_text}
use Rattle.hls_legal.specs.Moment.{Boxes}
use Rattle.hls_legal.specs.Legal.{IsLegalReport}
use Rattle.hls_core.specs.declared.told.Told.{Told}

-- the text is that of a legal report of the scenario
pub record IsLegalText (s : Scenario) (given : ℕ) (boxes : Boxes) (text : Text) : Type 0 where
  pub report : Report
  pub legal : IsLegalReport s given boxes report
  pub spelled : text ≡ report_text report

-- the text that is to be written: what comes before the schedule, the schedule, and what comes after it
abbrev pub told_text : Told → Text
told_text t = t.front.items ++ schedule_text t.schedule ++ t.back.items
