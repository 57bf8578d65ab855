use Rattle.std.proofs.Common.{◌≡◌, ◌<◌, ◌^◌, take}
use Rattle.hls_view_picture_rows.specs.Left.{names_wide}
use Rattle.hls_view_picture_rows.proofs.left.names_wide.Given as goal

abbrev pub invariant-loop-row : goal.invariant-loop-row
invariant-loop-row l = (l.wide ≡ names_wide (take l.row-index l.rows)) × (l.wide < 2 ^ 70)
