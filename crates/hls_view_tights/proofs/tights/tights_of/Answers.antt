use Rattle.std.proofs.Common.{◌≡◌, ◌∙◌, List, ap, subst}
use Rattle.hls_report_text.specs.Content.{content_of}
use Rattle.hls_view_tale.specs.declared.label.Label.{Label}
use Rattle.hls_view_margins.specs.declared.margin.Margin.{Margin}
use Rattle.hls_view_tights.specs.declared.tights.Tight.{Tight}
use Rattle.hls_view_tights.specs.declared.sightings.Sighting.{Sighting}
use Rattle.hls_view_tights.specs.Surpluses.{IsLeastOf}
use Rattle.hls_view_tights.specs.Tights.{tights_in}
use Rattle.hls_view_tights.specs.Inside.Sightings.{seen_in}
use Rattle.hls_view_tights.proofs.RowLaws.{row_more}
use Rattle.hls_view_tights.proofs.tights.tights_of.Goals as goal

pub loop-row-preserved : goal.loop-row-preserved
loop-row-preserved c =
    let content = content_of c.args.report.now in
    let scale = c.args.scale.now in
    let margins = c.in_ok-margins.margins.items in
    let row = c.row-item.result in
    let seen : seen_in row c.in_ok-sightings.sightings.items ≡ tights_in content scale row margins =
    c.in_ok-sightings.ensures row ∙ ap (λ (l : List Margin). tights_in content scale row l) c.deref.ensures.value in
    let least : IsLeastOf (seen_in row c.in_ok-sightings.sightings.items) c.tightest.result =
    subst (λ (l : List Sighting). IsLeastOf (seen_in row l) c.tightest.result) c.deref-in-loop-row.ensures.value
    (subst (λ (r : List Label). IsLeastOf (seen_in r c.deref-in-loop-row.result.now) c.tightest.result) c.items.ensures
    c.tightest.ensures) in
    row_more content scale margins c.args.rows.now c.loop-row.row-index row c.tightest.result c.loop-row.all.items
    c.push.new.self.items c.loop-row-test.true c.row-item.is
    (subst (λ (l : List Tight). IsLeastOf l c.tightest.result) seen least) c.in_ok-push.ensures.items
    c.loop-row.invariant
