use Rattle.std.proofs.Common.{◌≡◌, map}
use Rattle.std.specs.List.{range_with_len}
use Rattle.hls_report_text.specs.Content.{content_of}
use Rattle.hls_view_scale.specs.Columns.{column_from, ticks_in}
use Rattle.hls_view_lanes.specs.Inside.Telling.{IsTelling, tallies}
use Rattle.hls_view_lanes.proofs.lanes.columns_of.Given as goal

abbrev pub invariant-loop-column : goal.invariant-loop-column
invariant-loop-column l = record {
  telling : IsTelling l.report l.fn.telling.rows.items l.telling;
  columns : l.columns.items
      ≡ map (λ k. tallies (content_of l.report) l.fn.telling.rows.items (column_from l.scale k) (ticks_in l.scale k))
      (range_with_len 0 l.column);
}
