-- What reading a text as a report answers.
use Rattle.std.specs.Prelude.{◌≡◌, [], Result, Ok, Err}
use Rattle.hls_text.specs.Lines.{Text}
use Rattle.hls_report.specs.declared.fault.ReportFault.{ReportFault}
use Rattle.hls_report.specs.declared.fault.ReportFault.TheVariants as faults
use Rattle.hls_report_text.specs.declared.report.Report.{Report}
use Rattle.hls_report_text.specs.Content.{content_of}
use Rattle.hls_report_text.specs.WellFormed.{names_after, IsFirstBad}

-- a report of the same content, where there is memory
abbrev pub ReadsAs : Report → Result Report ReportFault → Type 0
ReadsAs report (Ok read) = content_of read ≡ content_of report
ReadsAs report (Err (faults.At line)) = ⊥
ReadsAs report (Err (faults.Memory error)) = Unit {0}

-- the names of a report are those of its paths, each once by first use
abbrev pub HasNamesByUse : Report → Type 0
HasNamesByUse report = report.names ≡ names_after [] (content_of report).stretches

-- a line that cannot stand is the first one
abbrev pub IsBadAt : Text → ReportFault → Type 0
IsBadAt text (faults.At line) = IsFirstBad text line
IsBadAt text (faults.Memory error) = Unit {0}
