-- What the lines before the commands tell.
use Rattle.std.specs.Prelude.{◌≤◌}
use Rattle.hls_chron.specs.Ranges.{IsWithin, IsVersion, most_ticks, longest_horizon}
use Rattle.hls_report.specs.declared.lines.Lines.{Lines}
use Rattle.hls_report.specs.declared.report_reading.Heading.{Heading}
use Rattle.hls_report_text.specs.ReportText.{head_lines}
use Rattle.hls_report.specs.Inside.Rests.{Passes, HeaderRest, CommandRest}

-- a version with a horizon and a depth, behind which commands may come
pub record IsHeadRead (old new : Lines) (head : Heading) : Type 0 where
  pub version : IsVersion head.version
  pub horizon : IsWithin 1 (most_ticks head.version) head.horizon
  pub few : head.horizon ≤ longest_horizon
  pub depth : head.depth ≤ 6
  pub passes : Passes HeaderRest (CommandRest head.version head.horizon 0 65536)
      (head_lines head.version head.horizon head.depth) old new
