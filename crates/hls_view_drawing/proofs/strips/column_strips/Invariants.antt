use Rattle.std.proofs.Common.{◌≡◌, map}
use Rattle.std.specs.List.{range_with_len}
use Rattle.hls_view_drawing.specs.Strips.{data_of, column_strip}
use Rattle.hls_view_drawing.proofs.strips.column_strips.Given as goal

abbrev pub invariant-loop-column : goal.invariant-loop-column
invariant-loop-column l = map data_of l.all.items
    ≡ map (column_strip l.scale l.ways l.counts) (range_with_len 0 l.column)
