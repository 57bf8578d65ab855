use Rattle.hls_report_text.specs.Content.{content_of}
use Rattle.hls_audit.specs.Inside.Leading.{IsReached}
use Rattle.hls_view_timeline.specs.Inside.Paths.{ArePaths}
use Rattle.hls_view_timeline.proofs.paths.paths_of.Given as goal

abbrev pub invariant-loop-tick : goal.invariant-loop-tick
invariant-loop-tick l = record {
  reached : IsReached l.report.runs l.tick l.at;
  paths : ArePaths (content_of l.report) l.report.names l.tick l.paths.items;
}
