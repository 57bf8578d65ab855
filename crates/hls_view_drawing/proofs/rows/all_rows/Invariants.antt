use Rattle.std.proofs.Common.{◌≡◌, map}
use Rattle.std.specs.List.{range_with_len}
use Rattle.hls_view_drawing.specs.Rows.{data_of, row_at}
use Rattle.hls_view_drawing.proofs.rows.all_rows.Given as goal

abbrev pub invariant-loop-number : goal.invariant-loop-number
invariant-loop-number l = map data_of l.all.items
    ≡ map (row_at l.scale l.ways l.counts l.signs l.tights) (range_with_len 0 l.number)
