use Rattle.std.proofs.Common.{◌≡◌, take, fold}
use Rattle.hls_view_lanes.specs.Rows.{with_rows}
use Rattle.hls_view_lanes.proofs.rows.add_rows.Given as goal

abbrev pub invariant-loop-way : goal.invariant-loop-way
invariant-loop-way l = l.rows.items ≡ fold with_rows l.initial.rows.items (take l.way-index l.ways)
