use Rattle.hls_report_text.specs.Content.{content_of}
use Rattle.hls_view_jobs.proofs.LineLaws.{lines_next}
use Rattle.hls_view_jobs.proofs.threads.lines_among.Goals as goal

pub loop-at-preserved : goal.loop-at-preserved
loop-at-preserved c = record {
  sources = c.in_ok-line_of.ensures.sources;
  lines = lines_next (content_of c.args.report.now) c.args.threads.now c.loop-at.at c.index-threads-at.result
      c.in_ok-line_of.field-0 c.loop-at.lines.items c.push.new.self.items c.loop-at-test.true c.index-threads-at.is
      c.in_ok-line_of.ensures.line c.in_ok-push.ensures.items c.loop-at.invariant.lines;
}
