use Rattle.hls_report_text.specs.Content.{content_of}
use Rattle.hls_view_lanes.proofs.FactLaws.{path-named}
use Rattle.hls_view_lanes.proofs.telling.Telling.turn_to.Goals as goal

pub pass-requires-clause-named : goal.pass-requires-clause-named
pass-requires-clause-named c =
    let r = c.args.report.now in
    path-named (content_of r) c.args.tick r.names c.path_of-path.result c.requires.formed.content
    c.path_of-path.ensures.path
