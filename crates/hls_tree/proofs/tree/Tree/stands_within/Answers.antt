use Rattle.hls_tree.proofs.Flat.{behind_of}
use Rattle.hls_tree.proofs.Rolls.{roll}
use Rattle.hls_tree.proofs.tree.Tree.stands_within.Goals as goal

pub stands_within-requires-clause-roll : goal.stands_within-requires-clause-roll
stands_within-requires-clause-roll g c = rw c.deref.ensures.value (roll _ _ _ c.requires.tree)

pub stands_within-requires-clause-quiet : goal.stands_within-requires-clause-quiet
stands_within-requires-clause-quiet g c =
    rw c.deref.ensures.value (behind_of _ _ _ _ c.requires.tree.tree.late c.requires.tree.tree.quiet)
