use Rattle.hls_tree_depths.proofs.Asked.{fair_read}
use Rattle.hls_tree_depths.proofs.paths.shares_after.Goals as goal

pub returns : goal.returns
returns g c = λ h later of may new.
    fair_read _ c.args.schedulers.now h of c.args.id c.args.parent may later new c.greatest_after.result _
    c.from.ensures (c.greatest_after.ensures h later of may new)
