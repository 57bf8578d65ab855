use Rattle.std.proofs.Common.{take, map}
use Rattle.hls_report_text.specs.Content.{content_of}
use Rattle.hls_view_jobs.specs.Summaries.{AreLines}
use Rattle.hls_view_jobs.specs.Inside.Sources.{AreSources, life_by}
use Rattle.hls_view_jobs.proofs.threads.lines_among.Given as goal

abbrev pub invariant-loop-at : goal.invariant-loop-at
invariant-loop-at l = record {
  sources : AreSources l.report l.sources;
  lines : AreLines (content_of l.report) (map (life_by l.report.horizon l.report.answered) (take l.at l.threads))
      l.lines.items;
}
