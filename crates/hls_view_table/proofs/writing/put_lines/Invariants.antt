use Rattle.std.proofs.Common.{◌≡◌, ◌++◌, map, take}
use Rattle.hls_view_table.specs.Tables.{cells_of, lines_text}
use Rattle.hls_view_table.proofs.writing.put_lines.Given as goal

abbrev pub invariant-loop-row : goal.invariant-loop-row
invariant-loop-row l =
    l.out.items ≡ l.fn.out.items ++ lines_text l.lanes (map cells_of (take l.row-index l.rows))
