use Rattle.std.proofs.Common.{◌≡◌, map, take}
use Rattle.hls_view_table.specs.Tables.{cells_of, head_of}
use Rattle.hls_view_table.proofs.lanes.heads_of.Given as goal

abbrev pub invariant-loop-column : goal.invariant-loop-column
invariant-loop-column l = cells_of l.heads ≡ map head_of (take l.column-index l.columns)
