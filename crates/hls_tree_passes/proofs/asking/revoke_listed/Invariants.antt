use Rattle.hls_tree_nodes.specs.Shown.{on_post, post_revoked}
use Rattle.hls_tree_nodes.specs.Views.{shown_at}
use Rattle.hls_tree_nodes.specs.Late.{StaysLate}
use Rattle.hls_tree_nodes.proofs.Walks.{IsChangedOn}
use Rattle.hls_tree_passes.proofs.asking.revoke_listed.Given as goal

abbrev pub invariant-loop-id : goal.invariant-loop-id
invariant-loop-id g l = record {
  changed : IsChangedOn (λ o. o) (λ k. on_post post_revoked)
      (shown_at (λ b. (goal.Scheduler-dyn g (b.vtable, b.value)).seen b.value) l.fn.nodes)
      (shown_at (λ b. (goal.Scheduler-dyn g (b.vtable, b.value)).seen b.value) l.nodes) l.route l.id-index;
  late : StaysLate (λ b. (goal.Scheduler-dyn g (b.vtable, b.value)).seen b.value) l.fn.nodes l.nodes;
}
