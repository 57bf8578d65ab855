-- What is to be written of a text, and at which status.
use Rattle.std.specs.Prelude.{◌≡◌, ℕ, [], ◌∷◌, ◌++◌}
use Rattle.hls_io.specs.declared.status.Status.{Status}
use Rattle.hls_io.specs.declared.status.Status.TheVariants as statuses
use Rattle.hls_text.specs.Lines.{Text}
use Rattle.hls_report_text.specs.declared.report.Report.{Report}
use Rattle.hls_report_text.specs.Content.{content_of}
use Rattle.hls_report_text.specs.WellFormed.{IsReportText}
use Rattle.hls_audit.specs.declared.auditing.Outcome.{Outcome}
use Rattle.hls_audit.specs.declared.auditing.Outcome.TheVariants.{Kept, Broken}
use Rattle.hls_audit.specs.Audits.{IsAudit, IsTale}
use Rattle.hls_top.specs.Refusing.{RefusesReport}
use Rattle.hls_top.specs.Summaries.{verdict}
use Rattle.hls_view_words.specs.declared.views.View.{View}
use Rattle.hls_view.specs.Texts.{HasManyRows, IsViewText}

-- the bytes are the text of a report that tells a tale, and the output is the view of it
pub record IsShown (view : View) (bytes output : Text) : Type 0 where
  pub report : Report
  pub audit : Outcome
  pub read : IsReportText bytes report
  pub tale : IsTale (content_of report) Kept
  pub audited : IsAudit (content_of report) audit
  pub said : IsViewText view (content_of report) audit output

-- they are the text of a report that tells none, and the output names the clause that hinders it, and the first tick
pub record IsUntold (bytes : Text) (clause tick : ℕ) (output : Text) : Type 0 where
  pub report : Report
  pub read : IsReportText bytes report
  pub broken : IsTale (content_of report) (Broken clause tick)
  pub spelled : output ≡ verdict (Broken clause tick) ++ 10 ∷ []

-- they are the text of a report that tells a tale, but the view would have more rows than are drawn: nothing is said
pub record IsTooTall (view : View) (bytes output : Text) : Type 0 where
  pub report : Report
  pub read : IsReportText bytes report
  pub tale : IsTale (content_of report) Kept
  pub tall : HasManyRows view (content_of report)
  pub silent : output ≡ []

abbrev pub IsSaid : View → (bytes : Text) → Status → (output : Text) → Type 0
IsSaid view bytes statuses.Done output = IsShown view bytes output
IsSaid view bytes statuses.Broken output = (clause : ℕ) × (tick : ℕ) × IsUntold bytes clause tick output
IsSaid view bytes statuses.RefusedText output = RefusesReport bytes output
IsSaid view bytes statuses.TooLong output = IsTooTall view bytes output
IsSaid view bytes _ output = ⊥
