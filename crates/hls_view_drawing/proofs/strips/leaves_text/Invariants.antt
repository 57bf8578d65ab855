use Rattle.std.proofs.Common.{◌≡◌, flat_map}
use Rattle.std.specs.List.{range_with_len}
use Rattle.hls_view_drawing.specs.Strips.{leaf_at}
use Rattle.hls_view_drawing.proofs.strips.leaves_text.Given as goal

abbrev pub invariant-loop-number : goal.invariant-loop-number
invariant-loop-number l = l.text.items ≡ flat_map (leaf_at l.column l.ways l.counts) (range_with_len 0 l.number)
