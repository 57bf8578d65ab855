use Rattle.std.proofs.Common.{◌≡◌, ◌++◌, drop, map}
use Rattle.hls_view_picture_frame.specs.Commands as told
use Rattle.hls_view_picture_frame.proofs.commands.refused_lines.Given as goal

abbrev pub invariant-loop-command : goal.invariant-loop-command
invariant-loop-command l = map (λ line. line.items) l.lines.items
    ++ told.refused_lines (drop l.command-index l.commands) ≡ told.refused_lines l.commands
