use Rattle.std.proofs.Common.{◌≡◌, take}
use Rattle.hls_view_picture_rows.specs.Left as told
use Rattle.hls_view_picture_rows.proofs.left.longest.Given as goal

abbrev pub invariant-loop-row : goal.invariant-loop-row
invariant-loop-row l = l.longest ≡ told.longest l.heading (take l.row-index l.rows)
