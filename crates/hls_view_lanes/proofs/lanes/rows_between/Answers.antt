use Rattle.std.proofs.Common.{◌∙◌, ◌∷◌, [], List, ap, sym, subst, fold, map}
use Rattle.hls_report_text.specs.Content.{content_of}
use Rattle.hls_view_tale.specs.declared.label.Label.{Label}
use Rattle.hls_view_tale.specs.declared.place.Place.{Place}
use Rattle.hls_view_tale.specs.Places.{labels_of}
use Rattle.hls_view_lanes.specs.Rows.{ways_by_stays, with_rows}
use Rattle.hls_view_lanes.specs.Inside.Kept.{HaveRows}
use Rattle.hls_view_lanes.proofs.RowLaws.{rows-first, rows-more}
use Rattle.hls_view_lanes.proofs.lanes.rows_between.Goals as goal

pub loop-tick-init : goal.loop-tick-init
loop-tick-init c = record {
  rows =
      c.in_ok-rows.ensures.items ∙ ap (λ (row : List Label). row ∷ []) (c.of.ensures ∙ c.new.ensures.items)
      ∙ sym (rows-first (content_of c.args.report.now) c.args.from);
  following = c.new-following.ensures.following (content_of c.args.report.now);
  have = subst (λ (places : List Place). HaveRows c.in_ok-rows.rows.items (map labels_of places))
      (sym c.new-following.ensures.none) tt;
}

pub loop-tick-preserved : goal.loop-tick-preserved
loop-tick-preserved c =
    let content = content_of c.args.report.now in
    record {
      rows = c.in_ok-add_rows_at.ensures.rows
          ∙ ap (λ (rows : List (List Label)). fold with_rows rows (ways_by_stays content c.loop-tick.tick))
          c.loop-tick.invariant.rows
          ∙ sym (rows-more content c.args.from c.loop-tick.tick c.loop-tick.auto.tick);
      following = c.in_ok-add_rows_at.ensures.following;
      have = c.in_ok-add_rows_at.ensures.have;
    }
