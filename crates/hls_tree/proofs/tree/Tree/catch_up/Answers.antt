use Rattle.std.proofs.Common.{ap, refl}
use Rattle.hls_tree_nodes.specs.Shown.{ready_in}
use Rattle.hls_tree.proofs.CaughtUp.{caught_up}
use Rattle.hls_tree.proofs.Rolls.{roll}
use Rattle.hls_tree.proofs.tree.Tree.catch_up.Goals as goal

pub flush-requires-clause-roll : goal.flush-requires-clause-roll
flush-requires-clause-roll g c = rw c.deref.ensures.value (roll _ _ _ c.requires)

pub returns-clause-tree : goal.returns-clause-tree
returns-clause-tree g c = caught_up _ c.args.self.now _ c.flush.ensures.same c.flush.ensures.flat c.flush.ensures.late
    c.flush.ensures.tick (λ name. refl) refl refl refl refl refl refl refl refl

pub returns-clause-ready : goal.returns-clause-ready
returns-clause-ready g c = λ k. ap ready_in (c.flush.ensures.same k)
