use Rattle.std.proofs.Common.{List, subst, sym}
use Rattle.hls_report_text.specs.Content.{content_of}
use Rattle.hls_view_tale.specs.declared.label.Label.{Label}
use Rattle.hls_view_signs.specs.Signs.{IsSigns}
use Rattle.hls_view_signs.specs.Inside.Moments.{AreMoments}
use Rattle.hls_view_signs.proofs.SignLaws.{signs_next}
use Rattle.hls_view_signs.proofs.signs.signs_of.Goals as goal

pub loop-row-preserved : goal.loop-row-preserved
loop-row-preserved c =
    let content = content_of c.args.report.now in
    let scale = c.args.scale.now in
    let moments : AreMoments content scale c.deref.result.now =
    subst (AreMoments content scale) (sym c.deref.ensures.value) c.in_ok-moments.ensures in
    signs_next content scale c.args.rows.now c.loop-row.row-index c.row-item.result c.in_ok-signs_for.field-0
    c.loop-row.all.items c.push.new.self.items c.loop-row-test.true c.row-item.is
    (subst (λ (row : List Label). IsSigns content scale row c.in_ok-signs_for.field-0) c.items.ensures
    (c.in_ok-signs_for.ensures content moments))
    c.in_ok-push.ensures.items c.loop-row.invariant
