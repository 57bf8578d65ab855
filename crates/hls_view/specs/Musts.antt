-- The answers that must come, unless memory is wanting, where no fault is counted.
use Rattle.std.specs.Prelude.{◌≡◌, ◌≤◌, ◌<◌, ◌⊎◌, length, Some}
use Rattle.hls_io.specs.declared.status.Status.{Status}
use Rattle.hls_io.specs.declared.status.Status.TheVariants.{Done, Broken, Usage, RefusedText, TooLong}
use Rattle.hls_text.specs.Lines.{Text}
use Rattle.hls_report_text.specs.declared.report.Report.{Report}
use Rattle.hls_report_text.specs.Content.{content_of}
use Rattle.hls_report_text.specs.WellFormed.{IsReportText}
use Rattle.hls_audit.specs.declared.auditing.Outcome.TheVariants.{Kept}
use Rattle.hls_audit.specs.Audits.{IsTale}
use Rattle.hls_top.specs.Exchange.{report_limit}
use Rattle.hls_top.specs.Refusing.{IsNoReportText}
use Rattle.hls_top.specs.Musts.{OrMemory}
use Rattle.hls_view_words.specs.Table.{IsView, IsNoView}
use Rattle.hls_view_words.specs.declared.views.View.{View}
use Rattle.hls_view.specs.Viewing.{Viewing, IsFaultless}
use Rattle.hls_view.specs.Texts.{HasManyRows}

-- these words came with these bytes, and no fault was counted
pub record Came (x : Viewing) (view : View) (bytes : Text) : Type 0 where
  pub words : IsView x.words view
  pub told : x.source.left ≡ Some bytes
  pub faultless : IsFaultless x

-- The status is Done where the report tells a tale, TooLong where the view of the tale would have too many rows, and
-- Broken where it tells none.
abbrev pub Judges : View → Status → Report → Type 0
Judges view status report = ((status ≡ Done) × IsTale (content_of report) Kept × ¬ HasManyRows view (content_of report))
    ⊎ (((status ≡ TooLong) × IsTale (content_of report) Kept × HasManyRows view (content_of report))
    ⊎ ((status ≡ Broken) × ¬ IsTale (content_of report) Kept))

pub record MustAnswer (x : Viewing) (status : Status) : Type 0 where
  -- a report's text within the limit is shown, or judged to tell no tale
  pub shows : (view : View) (bytes : Text) (report : Report) → Came x view bytes → IsReportText bytes report
      → length bytes ≤ report_limit → OrMemory status (Judges view status report)
  -- another text within the limit is refused
  pub refuses_text : (view : View) (bytes : Text) → Came x view bytes → IsNoReportText bytes
      → length bytes ≤ report_limit → OrMemory status (status ≡ RefusedText)
  -- a longer text is refused for its length
  pub refuses_length : (view : View) (bytes : Text) → Came x view bytes → report_limit < length bytes
      → OrMemory status (status ≡ TooLong)
  -- words that ask for nothing are refused
  pub refuses_words : IsNoView x.words → IsFaultless x → OrMemory status (status ≡ Usage)
