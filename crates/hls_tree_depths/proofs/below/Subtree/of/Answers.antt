use Rattle.hls_tree_depths.proofs.Asked.{subtree_read}
use Rattle.hls_tree_depths.proofs.below.Subtree.of.Goals as goal

pub returns : goal.returns
returns g c = λ h of. subtree_read _ c.args.schedulers.now h of c.args.upper c.key.result
    c.sums.result c.key.ensures.key c.sums.ensures
