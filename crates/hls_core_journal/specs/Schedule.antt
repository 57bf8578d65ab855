-- The schedule of a journal as it is written: spans, and what lines end with.
use Rattle.std.specs.Prelude.{List, [], ◌∷◌, ◌++◌, Option, codes, flat_map, get_or}
use Rattle.hls_text.specs.Lines.{Text}
use Rattle.hls_report_text.specs.declared.report.Path.{Path}
use Rattle.hls_report_text.specs.ReportText.{path_text, span_text, with_end}
use Rattle.hls_core_journal.specs.declared.kept_rows.Row.{Row}
use Rattle.hls_core_journal.specs.declared.schedule.Schedule.{Schedule}
use Rattle.hls_core_journal.specs.Ways.{names_by}

-- what the line of a run ends with, behind its span
abbrev pub tail_text : List Text → Option Path → Text
tail_text names path = with_end (32 ∷ path_text (names_by names path))

abbrev pub line_by : (tails : List Text) → Row → Text
line_by tails row = span_text row.from row.to ++ get_or tails row.way []

-- the text of a schedule
unfoldable pub schedule_text : Schedule → Text
schedule_text s = codes "schedule\n" ++ flat_map (line_by s.tails) s.rows.items
