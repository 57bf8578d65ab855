use Rattle.std.proofs.Common.{◌≡◌, filter}
use Rattle.std.specs.List.{range_with_len}
use Rattle.hls_view_signs.specs.Inside.Found.{is_found}
use Rattle.hls_view_signs.proofs.columns.in_order.Given as goal

abbrev pub invariant-loop-column : goal.invariant-loop-column
invariant-loop-column l = l.columns.items ≡ filter (is_found l.found) (range_with_len 0 l.column)
