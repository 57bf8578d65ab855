use Rattle.std.proofs.Common.{◌≡◌, map}
use Rattle.std.specs.List.{range_with_len}
use Rattle.hls_view_lanes.specs.Inside.Tallies.{counts_at}
use Rattle.hls_view_lanes.proofs.counts.all_counts.Given as goal

abbrev pub invariant-loop-place : goal.invariant-loop-place
invariant-loop-place l = l.counts.items ≡ map (counts_at l.columns) (range_with_len 0 l.place)
