use Rattle.std.proofs.Common.{◌≡◌, ◌++◌, drop}
use Rattle.std.specs.Prelude.{None}
use Rattle.hls_view_picture.specs.Strips.{titles_from}
use Rattle.hls_view_picture.proofs.titles.put_titles.Given as goal

abbrev pub invariant-loop-command : goal.invariant-loop-command
invariant-loop-command l = l.out.items ++ titles_from l.page l.column (drop l.command-index l.commands)
    ≡ l.fn.out.items ++ titles_from l.page None l.commands
