use Rattle.std.proofs.Common.{◌≢◌, ℕ, ◌<◌, true}
use Rattle.hls_tree_nodes.specs.Shown.{place_in}
use Rattle.hls_tree_nodes.specs.Views.{shown_at, is_place, place_view}
use Rattle.hls_tree_passes.proofs.granting.find_sitter.Given as goal

abbrev pub invariant-loop-key : goal.invariant-loop-key
invariant-loop-key g l = (key port : ℕ) → key < l.key → port < 4
    → is_place (place_in (shown_at (λ b. (goal.Scheduler-dyn g (b.vtable, b.value)).seen b.value) l.nodes key) port)
    (place_view l.place) ≢ true
