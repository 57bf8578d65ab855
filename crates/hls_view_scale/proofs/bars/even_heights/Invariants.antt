use Rattle.std.proofs.Common.{◌≡◌, map, take}
use Rattle.hls_view_scale.specs.Bars.{if_any}
use Rattle.hls_view_scale.proofs.bars.even_heights.Given as goal

abbrev pub invariant-loop-count : goal.invariant-loop-count
invariant-loop-count l = l.heights.items ≡ map (if_any l.high) (take l.count-index l.counts)
