use Rattle.std.proofs.Common.{◌≡◌, take, flat_map, map}
use Rattle.hls_view_drawing.specs.Commands.{data_of, shown_if}
use Rattle.hls_view_drawing.proofs.commands.commands_shown.Given as goal

abbrev pub invariant-loop-a : goal.invariant-loop-a
invariant-loop-a l = map data_of l.all.items ≡ flat_map (shown_if l.version l.scale) (take l.a-index l.answered)
