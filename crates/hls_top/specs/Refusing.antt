-- The line that refuses a text, and when it is due.
use Rattle.std.specs.Prelude.{◌≡◌, ℕ, [], ◌∷◌, ◌++◌, codes, decimal, Err}
use Rattle.hls_text.specs.Lines.{Text, lines_of}
use Rattle.hls_scenario.specs.declared.scenario.Scenario.{Scenario}
use Rattle.hls_scenario.specs.Grammar.{IsScenarioText, IsFirstBad}
use Rattle.hls_report_text.specs.declared.report.Report.{Report}
use Rattle.hls_report_text.specs.WellFormed as reports
use Rattle.hls_lang.specs.declared.fault.Cause.{Cause}
use Rattle.hls_lang.specs.declared.fault.Cause.TheVariants as causes
use Rattle.hls_lang.specs.ReadingLines.{scenario_of}

abbrev pub cause_text : Cause → Text
cause_text causes.Byte = codes "Byte"
cause_text causes.Header = codes "Header"
cause_text causes.Horizon = codes "Horizon"
cause_text causes.Many = codes "Many"
cause_text causes.Short = codes "Short"
cause_text causes.Extra = codes "Extra"
cause_text causes.Word = codes "Word"
cause_text causes.Number = codes "Number"
cause_text causes.Name = codes "Name"
cause_text causes.Order = codes "Order"
cause_text causes.Late = codes "Late"

-- the line and a word for what is wrong with it
abbrev pub refusal_line : (line : ℕ) → (cause : Text) → Text
refusal_line line cause = codes "refused line " ++ (decimal line ++ (codes " " ++ (cause ++ 10 ∷ [])))

-- the bytes are the text of no scenario
abbrev pub IsNoScenarioText : Text → Type 0
IsNoScenarioText bytes = (scenario : Scenario) → ¬ IsScenarioText bytes scenario

-- they are the text of no report
abbrev pub IsNoReportText : Text → Type 0
IsNoReportText bytes = (report : Report) → ¬ reports.IsReportText bytes report

-- the output names the first line with which no scenario's text begins, and the cause that reading finds there
pub record RefusesScenario (bytes output : Text) : Type 0 where
  pub line : ℕ
  pub cause : Cause
  pub none : IsNoScenarioText bytes
  pub first : IsFirstBad (lines_of bytes) line
  pub exact : scenario_of bytes ≡ Err (record { line = line; cause = cause })
  pub spelled : output ≡ refusal_line line (cause_text cause)

-- the output names the first line with which no report's text begins
pub record RefusesReport (bytes output : Text) : Type 0 where
  pub line : ℕ
  pub none : IsNoReportText bytes
  pub first : reports.IsFirstBad bytes line
  pub spelled : output ≡ refusal_line line (codes "Form")
