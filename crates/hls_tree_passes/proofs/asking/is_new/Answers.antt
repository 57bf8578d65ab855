use Rattle.std.proofs.Common.{◌≡◌, Some, sym, ap, ◌∙◌, subst}
use Rattle.std.specs.Option.{option_copied}
use Rattle.slab.specs.Slab.{get}
use Rattle.hls_tree_nodes.specs.Shown.{PostedWhat, PostedIn}
use Rattle.hls_tree_nodes.specs.Views.{what_of, shown_opt}
use Rattle.hls_tree_nodes.proofs.Late.{posted_stored}
use Rattle.hls_tree_passes.proofs.asking.is_new.Goals as goal

pub is_new-requires-clause-posted : goal.is_new-requires-clause-posted
is_new-requires-clause-posted g c =
    let there : get c.args.nodes.now.slab c.args.key ≡ Some c.in-Some.node.now =
    sym c.get.ensures ∙ ap option_copied c.in-Some.is in
    subst (λ r. PostedWhat (what_of (λ b. (goal.Scheduler-dyn g (b.vtable, b.value)).seen b.value) r)) c.in-Sched.is
    (subst (λ o. PostedIn (shown_opt (λ b. (goal.Scheduler-dyn g (b.vtable, b.value)).seen b.value) o)) there
    (posted_stored (λ b. (goal.Scheduler-dyn g (b.vtable, b.value)).seen b.value) c.args.nodes.now c.args.key
    c.requires.posted))
