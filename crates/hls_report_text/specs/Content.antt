-- What a report tells, with the names that its paths stand for.
use Rattle.std.specs.Prelude.{ℕ, List, [], option_map, map, take, get_or}
use Rattle.hls_text.specs.Lines.{Text}
use Rattle.hls_report_text.specs.declared.report.Answered.{Answered}
use Rattle.hls_report_text.specs.declared.report.Path.{Path}
use Rattle.hls_report_text.specs.declared.report.Run.{Run}
use Rattle.hls_report_text.specs.declared.stretch.Stretch.{Stretch}
use Rattle.hls_report_text.specs.declared.report.Account.{Account}
use Rattle.hls_report_text.specs.declared.report.Report.{Report}

pub record Content : Type 0 where
  pub version : ℕ
  pub horizon : ℕ
  pub depth : ℕ
  pub answered : List Answered
  pub stretches : List Stretch
  pub accounts : List Account
  pub idle : ℕ

abbrev pub path_names : List Text → Path → List Text
path_names names path = map (λ place. get_or names place []) (take path.len path.names)

abbrev pub stretch_of : List Text → Run → Stretch
stretch_of names run = record { from = run.from; to = run.to; path = option_map (path_names names) run.path }

-- two reports with the same content are the same, whatever their lists of names are
abbrev pub content_of : Report → Content
content_of r = record {
  version = r.version;
  horizon = r.horizon;
  depth = r.depth;
  answered = r.answered;
  stretches = map (stretch_of r.names) r.runs;
  accounts = r.accounts;
  idle = r.idle;
}
