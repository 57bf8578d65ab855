use Rattle.std.proofs.Common.{◌≡◌, fold, map, take}
use Rattle.std.specs.List.{range_with_len}
use Rattle.hls_view_lanes.specs.Rows.{with_row}
use Rattle.hls_view_lanes.proofs.rows.add_rows_of.Given as goal

abbrev pub invariant-loop-labels : goal.invariant-loop-labels
invariant-loop-labels l =
    l.rows.items ≡ fold with_row l.initial.rows.items (map (λ n. take n l.way) (range_with_len 0 l.labels))
