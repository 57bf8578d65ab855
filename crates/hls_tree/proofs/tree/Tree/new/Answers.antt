use Rattle.std.proofs.Common.{refl}
use Rattle.hls_tree.proofs.CaughtUp.{fresh}
use Rattle.hls_tree.proofs.tree.Tree.new.Goals as goal

pub returns-clause-tree : goal.returns-clause-tree
returns-clause-tree g c = fresh _ _ c.new.ensures.empty refl refl refl c.new-2.ensures c.new-3.ensures.items
    c.new-4.ensures.items c.new-5.ensures.items refl refl refl refl
