use Rattle.std.proofs.Common.{◌∙◌}
use Rattle.hls_tree_depths.proofs.Asked.{shares_read}
use Rattle.hls_tree_depths.proofs.paths.shares.Goals as goal

pub returns : goal.returns
returns g c = λ h of loaded.
    shares_read _ c.args.schedulers.now h of c.args.id c.key.result c.sums-sums.result c.key.ensures.key
    loaded c.sums-sums.ensures _ (c.from.ensures ∙ c.sum_of.ensures)
