use Rattle.std.proofs.Common.{ap, refl}
use Rattle.hls_tree_nodes.specs.Views.{shown_opt}
use Rattle.hls_tree_nodes.specs.Behind.{late}
use Rattle.hls_tree_nodes.proofs.Late.{posted_stored}
use Rattle.hls_tree_passes.proofs.Tellings.{freed_late, freed_shown}
use Rattle.hls_tree_passes.proofs.asking.revoke_at.Goals as goal

pub revoke_on-requires : goal.revoke_on-requires
revoke_on-requires g c = record {
  posted = posted_stored (λ b. (goal.Scheduler-dyn g (b.vtable, b.value)).seen b.value) c.args.nodes.now c.args.key
      c.requires.posted;
}

pub returns : goal.returns
returns g c = record {
  here = freed_shown (λ b. (goal.Scheduler-dyn g (b.vtable, b.value)).seen b.value) c.args.nodes.now
      (record c.args.nodes.now { slab = c.revoke_on.new.slab }) c.args.key c.requires.behind refl refl
      c.revoke_on.ensures.here;
  others = λ k ne. ap (λ o. late c.args.nodes.now.behind c.args.nodes.now.tick
      (shown_opt (λ b. (goal.Scheduler-dyn g (b.vtable, b.value)).seen b.value) o)) (c.revoke_on.ensures.others k ne);
  late = freed_late (λ b. (goal.Scheduler-dyn g (b.vtable, b.value)).seen b.value) c.args.nodes.now
      (record c.args.nodes.now { slab = c.revoke_on.new.slab }) c.args.key c.requires.late refl refl refl
      (λ k ne. ap (shown_opt (λ b. (goal.Scheduler-dyn g (b.vtable, b.value)).seen b.value))
      (c.revoke_on.ensures.others k ne)) c.revoke_on.ensures.here;
}
