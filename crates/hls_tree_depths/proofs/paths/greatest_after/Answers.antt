use Rattle.std.proofs.Common.{refl}
use Rattle.hls_tree_depths.proofs.Asked.{moved_answer}
use Rattle.hls_tree_depths.proofs.paths.greatest_after.Goals as goal

pub returns : goal.returns
returns g c = λ h later of may new.
    moved_answer _ c.args.schedulers.now h of c.args.id c.args.parent may later new c.args.counted c.key.result
    c.key_of.result c.sums.result c.key.ensures.key c.key_of.ensures c.sums.ensures c.requires.few
    c.greatest_of.ensures.long c.greatest_of.result _ refl c.greatest_of.ensures.most
    c.greatest_of.ensures.there
