use Rattle.std.proofs.Common.{refl}
use Rattle.hls_report_text.specs.Content.{content_of}
use Rattle.hls_audit.proofs.Abreast.{reach_on, reach_next, unreached, read_at}
use Rattle.hls_view_timeline.proofs.paths.run_of.Goals as goal

pub returns-then-run-tick : goal.returns-then-run-tick
returns-then-run-tick c =
    let r = c.args.report.now in
    reach_next (content_of r) r.names r.runs c.items.result.now c.args.tick c.args.last c.in-Some.run'.now
    c.requires.formed.content refl c.items.ensures
    (read_at c.items.result.now c.args.last c.in-Some.run'.now c.in-Some.ensures.lookup.3.0
    c.in-Some.ensures.lookup.1) c.requires.early c.if-run-tick.true
    c.requires.reached

pub returns-else-run-tick : goal.returns-else-run-tick
returns-else-run-tick c =
    let r = c.args.report.now in
    reach_on r.runs c.items.result.now c.args.tick c.args.last c.in-Some.run'.now c.items.ensures
    (read_at c.items.result.now c.args.last c.in-Some.run'.now c.in-Some.ensures.lookup.3.0
    c.in-Some.ensures.lookup.1) c.if-run-tick.false c.requires.reached

pub returns-in-None : goal.returns-in-None
returns-in-None c =
    let r = c.args.report.now in
    absurd (unreached r.runs c.items.result.now c.args.tick c.args.last c.items.ensures c.in-None.ensures.lookup.3
    c.requires.reached)
