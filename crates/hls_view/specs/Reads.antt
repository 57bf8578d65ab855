-- What is read is a legal report.
use Rattle.std.specs.Prelude.{◌≡◌, ℕ, Some}
use Rattle.hls_text.specs.Lines.{Text}
use Rattle.hls_scenario.specs.declared.scenario.Scenario.{Scenario}
use Rattle.hls_report_text.specs.declared.report.Report.{Report}
use Rattle.hls_report_text.specs.Content.{Content, content_of}
use Rattle.hls_report_text.specs.WellFormed.{IsReportText}
use Rattle.hls_legal.specs.Moment.{Boxes}
use Rattle.hls_legal.specs.Legal.{IsLegalContent}
use Rattle.hls_view.specs.Viewing.{Viewing}

-- the bytes are the text of a report with this content
pub record IsTextOf (bytes : Text) (c : Content) : Type 0 where
  pub report : Report
  pub read : IsReportText bytes report
  pub content_is : content_of report ≡ c

-- the bytes that come are the text of a report with this content, which is legal for some scenario, depth and boxes
pub record ReadsLegalReport (x : Viewing) (c : Content) : Type 0 where
  pub bytes : Text
  pub told : x.source.left ≡ Some bytes
  pub text : IsTextOf bytes c
  pub scenario : Scenario
  pub given : ℕ
  pub boxes : Boxes
  pub legal : IsLegalContent scenario given boxes c
