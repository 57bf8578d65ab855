use Rattle.std.proofs.Common.{ℕ, ◌≡◌, ◌<◌, Some, slice_get}
use Rattle.hls_tree_nodes.specs.Shown.{asks_in}
use Rattle.hls_tree_nodes.specs.Views.{shown_at}
use Rattle.hls_tree_nodes.specs.Known.{has_bit}
use Rattle.hls_tree_passes.proofs.asking.voices_of.Given as goal

abbrev pub invariant-loop-at : goal.invariant-loop-at
invariant-loop-at g l = (k c : ℕ) → k < l.at → k < 64 → slice_get l.schedulers k ≡ Some c
    → has_bit l.voices k ≡ asks_in (shown_at (λ b. (goal.Scheduler-dyn g (b.vtable, b.value)).seen b.value) l.nodes c)
