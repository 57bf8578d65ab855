use Rattle.std.proofs.Common.{◌≡◌, drop}
use Rattle.hls_tree_depths.specs.Subtrees.{sum_at}
use Rattle.hls_tree_depths.proofs.sum.sum_found.Given as goal

abbrev pub invariant-loop-at : goal.invariant-loop-at
invariant-loop-at l = sum_at (drop l.at l.schedulers) (drop l.at l.sums) l.key ≡ sum_at l.schedulers l.sums l.key
