-- Which schedulers are a node or below it, by sums beside the list of schedulers.
use Rattle.std.specs.Prelude.{◌≡◌, ℕ, ◌<◌, ◌==◌, if◌then◌else◌, List, [], ◌∷◌, Some}
use Rattle.hls_machine.specs.Hierarchy.{Hierarchy, Loaded, Scheduler}
use Rattle.hls_machine.specs.Readings.{IsUnder}
use Rattle.hls_tree_depths.specs.declared.below.Subtree.{Subtree}

-- the sum of the scheduler of a number, and 0 for what is not on the list
abbrev pub sum_at : (order sums : List ℕ) → (k : ℕ) → ℕ
sum_at [] sums k = 0
sum_at (c ∷ order) [] k = 0
sum_at (c ∷ order) (sum ∷ sums) k = if c == k then sum else sum_at order sums k

-- the sums of a subtree are more than 0 for those schedulers that are the node or below it
pub record IsSubtree (h : Hierarchy) (upper : ℕ) (x : Subtree) : Type 0 where
  pub upper_is : x.upper ≡ upper
  pub under : (k : ℕ) (s : Scheduler) → h.nodes k ≡ Some (Loaded s) → 0 < sum_at h.schedulers x.sums k
      → IsUnder h upper k
  pub all : (k : ℕ) (s : Scheduler) → h.nodes k ≡ Some (Loaded s) → IsUnder h upper k
      → 0 < sum_at h.schedulers x.sums k
