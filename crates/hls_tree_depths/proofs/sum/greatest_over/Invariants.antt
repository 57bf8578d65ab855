use Rattle.std.proofs.Common.{◌≡◌, max, map, drop}
use Rattle.hls_tree_nodes.specs.Views.{seat_view}
use Rattle.hls_tree_depths.specs.Subtrees.{sum_at}
use Rattle.hls_tree_depths.specs.Inside.Sums.{greatest_over}
use Rattle.hls_tree_depths.proofs.sum.greatest_over.Given as goal

abbrev pub invariant-loop-seat : goal.invariant-loop-seat
invariant-loop-seat l =
    max l.greatest (greatest_over (sum_at l.schedulers l.sums) (drop l.seat-index (map seat_view l.seats)))
    ≡ greatest_over (sum_at l.schedulers l.sums) (map seat_view l.seats)
