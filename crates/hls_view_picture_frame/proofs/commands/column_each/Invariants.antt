use Rattle.std.proofs.Common.{◌≡◌, ◌++◌, drop, map}
use Rattle.std.specs.Prelude.{filter}
use Rattle.hls_view_picture_frame.specs.Commands.{command_column, has_outcome}
use Rattle.hls_view_picture_frame.proofs.commands.column_each.Given as goal

abbrev pub invariant-loop-command : goal.invariant-loop-command
invariant-loop-command l = l.columns.items
    ++ map (command_column l.scale) (filter (has_outcome l.refused) (drop l.command-index l.commands))
    ≡ map (command_column l.scale) (filter (has_outcome l.refused) l.commands)
