use Rattle.std.proofs.Common.{◌≡◌, ◌≤◌, take, filter, length}
use Rattle.hls_view_lanes.specs.Rows.{comes_before}
use Rattle.hls_view_lanes.proofs.ways.count_before.Given as goal

abbrev pub invariant-loop-other : goal.invariant-loop-other
invariant-loop-other l = record {
  count : l.count ≡ length (filter (λ other. comes_before other l.way) (take l.other-index l.ways));
  within : l.count ≤ l.other-index;
}
