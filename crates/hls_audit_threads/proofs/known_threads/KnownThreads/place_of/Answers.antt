use Rattle.std.proofs.Common.{sym, ◌∙◌}
use Rattle.hls_report_text.specs.Content.{content_of}
use Rattle.hls_audit_threads.proofs.KnownLaws.{known_here, known_more}
use Rattle.hls_audit_threads.proofs.known_threads.KnownThreads.place_of.Goals as goal

pub returns-in-Some-clause-place : goal.returns-in-Some-clause-place
returns-in-Some-clause-place c =
    c.requires.known c.args.name.now c.in-Some.place (sym c.find.ensures ∙ c.in-Some.is)

pub returns-clause-place : goal.returns-clause-place
returns-clause-place c =
    known_here (content_of c.args.report.now) _ c.args.self.now.ticks.items c.args.name.now _ c.len-place.result
    c.in_ok-push.ensures.items (c.len-place.ensures ∙ c.args.self.now.ticks.ok.0) c.in_ok-ready.ensures
    c.in_ok-served.ensures

pub returns-clause-known : goal.returns-clause-known
returns-clause-known c =
    known_more (content_of c.args.report.now) c.args.self.now _ c.args.name.now _ c.len-place.result
    c.in_ok-push.ensures.items c.in_ok-set.ensures (returns-clause-place c) c.requires.known
