use Rattle.std.proofs.Common.{◌≡◌, ◌∷◌, ◌++◌, drop, map}
use Rattle.hls_view_table.specs.Tables.{cells_of, side_of, lanes_of, lanes_from}
use Rattle.hls_view_table.proofs.lanes.lanes_of.Given as goal

abbrev pub invariant-loop-at : goal.invariant-loop-at
invariant-loop-at l =
    let lines = cells_of l.heads ∷ map cells_of l.rows in
    l.lanes.items ++ lanes_from l.at (map side_of (drop l.at l.columns)) lines ≡ lanes_of (map side_of l.columns) lines
