-- What is to be written, word by word, and at which status.
use Rattle.std.specs.Prelude.{◌≡◌, ℕ, ◌≤◌, length, [], ◌∷◌, ◌++◌}
use Rattle.hls_io.specs.Bytes.{IsWhole}
use Rattle.hls_io.specs.declared.status.Status.{Status}
use Rattle.hls_io.specs.declared.status.Status.TheVariants as statuses
use Rattle.hls_text.specs.Lines.{Text}
use Rattle.hls_top_words.specs.declared.jobs.Job.{Job}
use Rattle.hls_top_words.specs.declared.jobs.Job.TheVariants.{Run, Check, Gen, Trial}
use Rattle.hls_scenario.specs.declared.scenario.Scenario.{Scenario}
use Rattle.hls_scenario.specs.Grammar.{IsScenarioText}
use Rattle.hls_scenario.specs.Forms.{scenario_text}
use Rattle.hls_report_text.specs.declared.report.Report.{Report}
use Rattle.hls_report_text.specs.Content.{content_of}
use Rattle.hls_report_text.specs.ReportText.{report_text, ended}
use Rattle.hls_report_text.specs.WellFormed.{IsReportText}
use Rattle.hls_legal.specs.Moment.{Boxes}
use Rattle.hls_legal.specs.Legal.{IsLegalReport}
use Rattle.hls_core.specs.Texts.{told_text}
use Rattle.hls_audit.specs.declared.auditing.Outcome.{Outcome}
use Rattle.hls_audit.specs.declared.auditing.Outcome.TheVariants.{Kept, Broken}
use Rattle.hls_audit_clauses.specs.Kept.{IsKept}
use Rattle.hls_audit.specs.Audits.{IsAudit}
use Rattle.hls_gen.specs.Generated.{generated}
use Rattle.hls_top.specs.Exchange.{Drawn, scenario_limit, report_limit}
use Rattle.hls_top.specs.Promises.{KeepsPromises}
use Rattle.hls_top.specs.Refusing.{RefusesScenario, RefusesReport}
use Rattle.hls_top.specs.Summaries.{verdict, trial_lines}
use Rattle.hls_top.specs.declared.outputs.OutputText.{OutputText}
use Rattle.hls_top.specs.declared.outputs.OutputText.TheVariants as texts

-- the text that is to be written
abbrev pub output_text : OutputText → Text
output_text (texts.Bytes bytes) = bytes.items
output_text (texts.Report told) = told_text told

-- ---- run

-- the output is the text of a legal report of the scenario whose text the bytes are, where this depth is given and
-- the kit has these boxes; and what such a report promises
pub record IsReportOf (depth : ℕ) (boxes : Boxes) (bytes output : Text) : Type 0 where
  pub scenario : Scenario
  pub report : Report
  pub read : IsScenarioText bytes scenario
  pub legal : IsLegalReport scenario depth boxes report
  pub promises : KeepsPromises scenario depth boxes (content_of report)
  pub spelled : output ≡ report_text report

abbrev pub IsOfRun : (depth : ℕ) → Boxes → (bytes : Text) → Status → (output : Text) → Type 0
IsOfRun depth boxes bytes statuses.Done output = IsReportOf depth boxes bytes output
IsOfRun depth boxes bytes statuses.RefusedText output = RefusesScenario bytes output
IsOfRun depth boxes bytes _ output = ⊥

-- ---- check

-- the output tells what the audit of the report whose text the bytes are comes to
pub record IsVerdictOn (bytes : Text) (audit : Outcome) (output : Text) : Type 0 where
  pub report : Report
  pub read : IsReportText bytes report
  pub audited : IsAudit (content_of report) audit
  pub spelled : output ≡ verdict audit ++ 10 ∷ []

abbrev pub IsOfCheck : (bytes : Text) → Status → (output : Text) → Type 0
IsOfCheck bytes statuses.Done output = IsVerdictOn bytes Kept output
IsOfCheck bytes statuses.Broken output = (clause : ℕ) × (tick : ℕ) × IsVerdictOn bytes (Broken clause tick) output
IsOfCheck bytes statuses.RefusedText output = RefusesReport bytes output
IsOfCheck bytes _ output = ⊥

-- ---- gen

-- the output is the canonical text of the scenario that is made from the number
abbrev pub IsOfGen : (number : ℕ) → Status → (output : Text) → Type 0
IsOfGen number statuses.Done output = output ≡ scenario_text (generated number)
IsOfGen number _ output = ⊥

-- ---- trial

-- the output is the summary of a legal report of the scenario that is made from the number (which states its depth,
-- 3, itself), where the kit has these boxes; and the audit of the report finds all kept
pub record IsTrialOf (number : ℕ) (boxes : Boxes) (output : Text) : Type 0 where
  pub report : Report
  pub legal : IsLegalReport (generated number) 3 boxes report
  pub kept : IsKept (content_of report)
  pub spelled : output ≡ ended (trial_lines number (content_of report) Kept)

abbrev pub IsOfTrial : (number : ℕ) → Boxes → Status → (output : Text) → Type 0
IsOfTrial number boxes statuses.Done output = IsTrialOf number boxes output
IsOfTrial number boxes _ output = ⊥

-- ---- all of them

-- these are all the bytes that came, they are within the limit, and something is said of them
pub record IsOfText (most : ℕ) (d : Drawn) (IsSaid : (bytes : Text) → Type 0) : Type 0 where
  pub bytes : Text
  pub whole : IsWhole d.left d.left_after bytes
  pub within : length bytes ≤ most
  pub said : IsSaid bytes

-- nothing was read
pub record IsOfNoText (d : Drawn) (IsSaid : Type 0) : Type 0 where
  pub unread : d.left_after ≡ d.left
  pub said : IsSaid

-- the output at words that ask for this
abbrev pub IsOutput : Boxes → Job → Drawn → Status → (output : Text) → Type 0
IsOutput boxes (Run depth) d status output =
    IsOfText scenario_limit d (λ bytes. IsOfRun depth boxes bytes status output)
IsOutput boxes Check d status output =
    IsOfText report_limit d (λ bytes. IsOfCheck bytes status output)
IsOutput boxes (Gen number) d status output = IsOfNoText d (IsOfGen number status output)
IsOutput boxes (Trial number) d status output = IsOfNoText d (IsOfTrial number boxes status output)
