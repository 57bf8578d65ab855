use Rattle.hls_tree_nodes.specs.Shown.{on_post, post_revoked}
use Rattle.hls_tree_nodes.specs.Views.{shown_at, stored_at}
use Rattle.hls_tree_nodes.proofs.Walks.{IsChangedOn}
use Rattle.hls_tree_passes.proofs.Levels.{AreLevels}
use Rattle.hls_tree_passes.proofs.asking.begin_all.Given as goal

abbrev pub invariant-loop-at : goal.invariant-loop-at
invariant-loop-at g l = record {
  changed : IsChangedOn (λ o. o) (λ k. on_post post_revoked)
      (stored_at (λ b. (goal.Scheduler-dyn g (b.vtable, b.value)).seen b.value) l.fn.nodes.slab)
      (stored_at (λ b. (goal.Scheduler-dyn g (b.vtable, b.value)).seen b.value) l.nodes.slab) l.schedulers l.at;
  levels : AreLevels
      (shown_at (λ b. (goal.Scheduler-dyn g (b.vtable, b.value)).seen b.value) l.fn.nodes) l.schedulers l.at l.places;
}
