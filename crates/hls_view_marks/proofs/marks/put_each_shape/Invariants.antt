use Rattle.std.proofs.Common.{◌≡◌, ◌++◌, take, flat_map}
use Rattle.hls_view_marks.specs.Marks.{shape_text}
use Rattle.hls_view_marks.proofs.marks.put_each_shape.Given as goal

abbrev pub invariant-loop-column : goal.invariant-loop-column
invariant-loop-column l = l.way.items ≡ l.fn.way.items
    ++ flat_map (shape_text l.page l.shapes.back l.shapes.down l.shapes.shape.now)
    (take l.column-index l.shapes.columns.now)
