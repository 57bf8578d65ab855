use Rattle.std.proofs.Common.{List, ◌∙◌, ap, subst, sym}
use Rattle.hls_report_text.specs.declared.report.Answered.{Answered}
use Rattle.hls_report_text.specs.Content.{content_of}
use Rattle.hls_view_signs.specs.Inside.Scenes.{AreRoused, any_begun}
use Rattle.hls_view_signs.proofs.SceneLaws.{knows_all, roused_by_notes}
use Rattle.hls_view_signs.proofs.moments.Gathering.put.Goals as goal

pub moment_at-requires-clause-all : goal.moment_at-requires-clause-all
moment_at-requires-clause-all c =
    let content = content_of c.args.report.now in
    let tick = c.args.tick in
    knows_all content tick c.deref-2.result.now c.any_begun.result c.deref-3.result.now
    (c.deref-3.ensures.value ∙ c.in_ok-go_to.ensures.hierarchy.standing)
    (c.any_begun.ensures ∙ ap (λ (l : List Answered). any_begun l tick c.deref-3.result.now) c.items.ensures)
    (subst (AreRoused content tick) (sym c.deref-2.ensures.value)
    (roused_by_notes content tick c.args.notes.now c.in_ok-roused.roused.items c.requires.notes
    c.in_ok-roused.ensures))
