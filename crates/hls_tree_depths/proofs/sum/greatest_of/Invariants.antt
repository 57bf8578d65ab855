use Rattle.std.proofs.Common.{◌≡◌, ◌<◌, ◌≤◌, ◌⊎◌, ℕ, get_or}
use Rattle.hls_tree_depths.proofs.sum.greatest_of.Given as goal

abbrev pub invariant-loop-at : goal.invariant-loop-at
invariant-loop-at l = record {
  most : (at : ℕ) → at < l.at → get_or l.sums at 0 ≤ l.greatest;
  there : (l.greatest ≡ 0) ⊎ ((at : ℕ) × (at < l.at) × (get_or l.sums at 0 ≡ l.greatest));
}
