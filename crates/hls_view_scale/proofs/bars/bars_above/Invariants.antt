use Rattle.std.proofs.Common.{◌≡◌, drop}
use Rattle.hls_view_scale.specs.Bars.{bars_above, with_columns}
use Rattle.hls_view_scale.proofs.bars.bars_above.Given as goal

abbrev pub invariant-loop-at : goal.invariant-loop-at
invariant-loop-at l = with_columns l.bars.items l.at (drop l.at l.heights) ≡ bars_above l.heights
