use Rattle.std.proofs.Common.{◌≡◌, take, flat_map}
use Rattle.hls_view_drawing.specs.Names.{thread_name}
use Rattle.hls_view_drawing.proofs.names.thread_names.Given as goal

abbrev pub invariant-loop-row : goal.invariant-loop-row
invariant-loop-row l = l.names.items ≡ flat_map thread_name (take l.row-index l.rows)
