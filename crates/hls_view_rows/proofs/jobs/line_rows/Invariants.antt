use Rattle.std.proofs.Common.{◌≡◌, take, map}
use Rattle.hls_view_table.specs.Tables.{cells_of}
use Rattle.hls_view_rows.specs.Jobs.{line_cells}
use Rattle.hls_view_rows.proofs.jobs.line_rows.Given as goal

abbrev pub invariant-loop-line : goal.invariant-loop-line
invariant-loop-line l = map cells_of l.rows.items ≡ map line_cells (take l.line-index l.lines)
