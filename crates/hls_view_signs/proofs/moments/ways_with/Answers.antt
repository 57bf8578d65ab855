use Rattle.std.proofs.Common.{◌≡◌, ◌<◌, ◌++◌, ◌∷◌, [], ◌∙◌, List, length, get_or, sym, ap, subst}
use Rattle.hls_report_text.specs.Content.{content_of}
use Rattle.hls_view_tale.specs.declared.label.Label.{Label}
use Rattle.hls_view_tale.specs.declared.place.Place.{Place}
use Rattle.hls_view_tale.specs.declared.standing.Standing.{Standing}
use Rattle.hls_view_tale.specs.Hierarchies.{standing_at}
use Rattle.hls_view_tree.specs.Stays.{standing_of}
use Rattle.hls_view_signs.specs.Happenings.{happens_to}
use Rattle.hls_view_signs.specs.Inside.Nodes.{happens_to_any}
use Rattle.hls_view_signs.specs.Inside.Moments.{node_if}
use Rattle.hls_view_signs.specs.Inside.Scenes.{may_happen}
use Rattle.hls_view_signs.proofs.MomentLaws.{place_kept, place_left}
use Rattle.hls_view_signs.proofs.SceneLaws.{node_known}
use Rattle.hls_view_signs.proofs.moments.ways_with.Goals.{then-branch+in_ok-labels+in_ok-push, else-branch}
use Rattle.hls_view_signs.proofs.moments.ways_with.Goals as goal

pub loop-place-preserved : goal.loop-place-preserved
loop-place-preserved c =
    let content = content_of c.args.report.now in
    let event = c.args.asked.event in
    let tick = c.args.asked.tick in
    let places = c.args.scene.now.hierarchy.now.places.items in
    let i = c.loop-place.place-index in
    let p = c.place-item.result in
    let on = λ (q : Place). happens_to content tick event q.label in
    let same = c.deref-place-items.ensures.value in
    let lt : i < length places = subst (λ (l : List Place). i < length l) same c.loop-place-test.true in
    let is : p ≡ get_or places i p = subst (λ (l : List Place). p ≡ get_or l i p) same c.place-item.is in
    let may = may_happen c.args.scene.now.roused.now c.args.scene.now.begins event p.label.name in
    let node = λ (l : List Standing). node_if may p.label (standing_of l p.label.name) in
    let tells : c.in_ok-happens_if.field-0 ≡ on p =
    c.in_ok-happens_if.ensures.is ∙ ap (happens_to_any content tick event) c.node_in-node.ensures
    ∙ ap (λ (l : List Standing). happens_to_any content tick event (node l)) c.requires.hierarchy.standing
    ∙ node_known content tick event p.label (standing_of (standing_at content tick) p.label.name) may
    (c.requires.all event p.label) in
    elim c.if-branch.branch [
      | then-branch+in_ok-labels+in_ok-push w ↦ record {
        sources = c.in_ok-happens_if.ensures.sources;
        ways = place_kept on places i p c.loop-place.ways.items c.if-branch.ways.items lt is
            (sym tells ∙ w.if-branch.true)
            (ap (λ v. v.items) w.ways-is ∙ w.in_ok-push.ensures.items
            ∙ ap (λ (way : List Label). c.loop-place.ways.items ++ way ∷ []) (w.of.ensures ∙ w.in_ok-labels.ensures))
            c.loop-place.invariant.ways;
      }
      | else-branch w ↦ record {
        sources = c.in_ok-happens_if.ensures.sources;
        ways = place_left on places i p c.loop-place.ways.items c.if-branch.ways.items lt is
            (sym tells ∙ w.if-branch.false) (ap (λ v. v.items) w.ways-is) c.loop-place.invariant.ways;
      }
    ]
