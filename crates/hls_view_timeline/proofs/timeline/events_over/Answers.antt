use Rattle.hls_report_text.specs.Content.{content_of}
use Rattle.hls_view_drawing.proofs.Spelled.{rows_valid}
use Rattle.hls_view_timeline.proofs.timeline.events_over.Goals as goal

pub put_names-requires-clause-valid : goal.put_names-requires-clause-valid
put_names-requires-clause-valid c =
    rows_valid (content_of c.args.shown.now.report.now) c.requires.formed.content 0 c.args.shown.now.report.now.horizon
    c.args.shown.now.rows.now c.requires.rows
