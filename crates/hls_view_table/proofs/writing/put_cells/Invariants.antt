use Rattle.std.proofs.Common.{◌≡◌, ◌++◌, map}
use Rattle.std.specs.Iterator.Adapters.{zip_first, zip_second}
use Rattle.std.specs.Slice.Iter.{iter_rest}
use Rattle.hls_view_table.specs.Tables.{spread}
use Rattle.hls_view_table.proofs.writing.put_cells.Given as goal

abbrev pub invariant-loop-lane : goal.invariant-loop-lane
invariant-loop-lane l =
    l.out.items ++ spread (iter_rest (zip_first l.lane-iterator))
    (map (λ c. c.items) (iter_rest (zip_second l.lane-iterator)))
    ≡ l.fn.out.items ++ spread l.lanes (map (λ c. c.items) l.cells)
