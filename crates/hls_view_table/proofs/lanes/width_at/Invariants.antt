use Rattle.std.proofs.Common.{◌≡◌, ◌∷◌, map, take}
use Rattle.hls_view_table.specs.Tables.{cells_of, width_at}
use Rattle.hls_view_table.proofs.lanes.width_at.Given as goal

abbrev pub invariant-loop-row : goal.invariant-loop-row
invariant-loop-row l = l.wide ≡ width_at l.at (cells_of l.heads ∷ map cells_of (take l.row-index l.rows))
