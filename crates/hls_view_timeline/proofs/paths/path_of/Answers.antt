use Rattle.std.proofs.Common.{refl, ◌+◌}
use Rattle.hls_report_text.specs.Content.{content_of}
use Rattle.hls_audit.proofs.Abreast.{path_reached, unreached, read_at}
use Rattle.hls_view_timeline.proofs.paths.path_of.Goals as goal

pub returns-in-Some-clause-path : goal.returns-in-Some-clause-path
returns-in-Some-clause-path c =
    let r = c.args.report.now in
    path_reached (content_of r) r.names r.runs c.items.result.now c.args.tick c.args.at c.in-Some.run'.now
    c.requires.formed.content refl c.items.ensures
    (read_at c.items.result.now c.args.at c.in-Some.run'.now c.in-Some.ensures.lookup.3.0
    c.in-Some.ensures.lookup.1) c.requires.reached

pub returns-in-None-clause-path : goal.returns-in-None-clause-path
returns-in-None-clause-path c =
    let r = c.args.report.now in
    absurd (unreached r.runs c.items.result.now (c.args.tick + 1) c.args.at c.items.ensures
    c.in-None.ensures.lookup.3 c.requires.reached)
