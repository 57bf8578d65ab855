use Rattle.std.proofs.Common.{◌≡◌, ◌∙◌, ◌+◌, ◌-◌, List, ap, length, map}
use Rattle.std.specs.List.{range_with_len}
use Rattle.hls_report_text.specs.Content.{content_of}
use Rattle.hls_view_tale.specs.declared.label.Label.{Label}
use Rattle.hls_view_scale.specs.Columns.{column_from, ticks_in}
use Rattle.hls_view_lanes.specs.Rows.{rows_of}
use Rattle.hls_view_lanes.specs.Inside.Telling.{tallies}
use Rattle.hls_view_lanes.proofs.Turned.{all-turned}
use Rattle.hls_view_lanes.proofs.lanes.lanes_of.Goals as goal

pub returns : goal.returns
returns c =
    let content = content_of c.args.report.now in
    let s = c.args.scale.now in
    let rows = rows_of content s.from (s.to + 1 - s.from) in
    let told : c.in_ok-telling.telling.rows.items ≡ rows = c.in_ok-telling.ensures.rows ∙ c.in_ok-rows.ensures in
    let left : c.columns_of.new.telling.rows.items ≡ rows = c.in_ok-columns.ensures.rows ∙ told in
    record {
      rows = left;
      counts = c.in_ok-counts.ensures
          ∙ all-turned content s rows c.deref.result.now (c.len.result + 1)
          (c.deref.ensures.value ∙ c.in_ok-columns.ensures.columns
          ∙ ap (λ (all : List (List Label)). map (λ k. tallies content all (column_from s k) (ticks_in s k))
          (range_with_len 0 s.columns)) told)
          (ap (λ n. n + 1) (c.len.ensures ∙ c.columns_of.new.telling.rows.ok.0
          ∙ ap (λ (all : List (List Label)). length all) left));
    }
