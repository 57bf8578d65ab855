use Rattle.std.proofs.Common.{◌≡◌, map, take}
use Rattle.hls_view_table.specs.Tables.{cells_of}
use Rattle.hls_view_rows.specs.Margins.{margin_cells}
use Rattle.hls_view_rows.proofs.margins.margin_rows.Given as goal

abbrev pub invariant-loop-m : goal.invariant-loop-m
invariant-loop-m l = map cells_of l.rows.items ≡ map margin_cells (take l.m-index l.margins)
