use Rattle.std.proofs.Common.{◌≡◌, take, map}
use Rattle.hls_view_drawing.specs.Drawing.{move_of}
use Rattle.hls_view_drawing.proofs.drawing.moves_of.Given as goal

abbrev pub invariant-loop-shift : goal.invariant-loop-shift
invariant-loop-shift l = l.moves.items ≡ map move_of (take l.shift-index l.shifts)
