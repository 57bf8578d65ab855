-- The answers that must come, unless memory is wanting, where no fault is counted.
use Rattle.std.specs.Prelude.{◌≡◌, ℕ, ◌≤◌, ◌<◌, ◌⊎◌, length, Some}
use Rattle.hls_io.specs.declared.status.Status.{Status}
use Rattle.hls_io.specs.declared.status.Status.TheVariants.{Done, Broken, Usage, RefusedText, Memory, TooLong}
use Rattle.hls_text.specs.Lines.{Text}
use Rattle.hls_top_words.specs.Table.{IsJob, IsNoJob}
use Rattle.hls_top_words.specs.declared.jobs.Job.{Job}
use Rattle.hls_top_words.specs.declared.jobs.Job.TheVariants.{Run, Check, Gen, Trial}
use Rattle.hls_scenario.specs.declared.scenario.Scenario.{Scenario}
use Rattle.hls_scenario.specs.Grammar.{IsScenarioText}
use Rattle.hls_report_text.specs.declared.report.Report.{Report}
use Rattle.hls_report_text.specs.Content.{content_of}
use Rattle.hls_report_text.specs.WellFormed.{IsReportText}
use Rattle.hls_audit_clauses.specs.Kept.{IsKept}
use Rattle.hls_top.specs.Exchange.{Exchange, scenario_limit, report_limit, limit, IsFaultless}
use Rattle.hls_top.specs.Refusing.{IsNoScenarioText, IsNoReportText}

-- these words came with these bytes, and no fault was counted
pub record Came (x : Exchange) (job : Job) (bytes : Text) : Type 0 where
  pub words : IsJob x.words job
  pub told : x.source.left ≡ Some bytes
  pub faultless : IsFaultless x

abbrev pub OrMemory : Status → Type 0 → Type 0
OrMemory status Answer = Answer ⊎ (status ≡ Memory)

-- the status of a check is Done where no clause of the audit fails, and Broken where one does
abbrev pub Judges : Status → Report → Type 0
Judges status report = ((status ≡ Done) × IsKept (content_of report))
    ⊎ ((status ≡ Broken) × ¬ IsKept (content_of report))

pub record MustAnswer (x : Exchange) (status : Status) : Type 0 where
  -- a scenario's text within the limit is answered with its report
  pub reports : (depth : ℕ) (bytes : Text) (scenario : Scenario) → Came x (Run depth) bytes
      → IsScenarioText bytes scenario → length bytes ≤ scenario_limit → OrMemory status (status ≡ Done)
  -- a report's text within the limit is judged
  pub judges : (bytes : Text) (report : Report) → Came x Check bytes → IsReportText bytes report
      → length bytes ≤ report_limit → OrMemory status (Judges status report)
  -- any number is answered with its scenario
  pub makes : (number : ℕ) → IsJob x.words (Gen number) → IsFaultless x → OrMemory status (status ≡ Done)
  -- and with a summary of its report
  pub tries : (number : ℕ) → IsJob x.words (Trial number) → IsFaultless x → OrMemory status (status ≡ Done)
  -- another text than a scenario's within the limit is refused
  pub refuses_scenario : (depth : ℕ) (bytes : Text) → Came x (Run depth) bytes → IsNoScenarioText bytes
      → length bytes ≤ scenario_limit → OrMemory status (status ≡ RefusedText)
  -- and another than a report's
  pub refuses_report : (bytes : Text) → Came x Check bytes → IsNoReportText bytes
      → length bytes ≤ report_limit → OrMemory status (status ≡ RefusedText)
  -- a longer text is refused for its length
  pub refuses_length : (job : Job) (most : ℕ) (bytes : Text) → Came x job bytes → limit job ≡ Some most
      → most < length bytes → OrMemory status (status ≡ TooLong)
  -- words that ask for nothing are refused
  pub refuses_words : IsNoJob x.words → IsFaultless x → OrMemory status (status ≡ Usage)
