use Rattle.std.proofs.Common.{◌∙◌, ap, sym, arith}
use Rattle.hls_tree_depths.specs.Subtrees.{sum_at}
use Rattle.hls_tree_depths.proofs.Sums.{at_place}
use Rattle.hls_tree_depths.proofs.sum.sum_near.Goals as goal

pub returns-then-is_at : goal.returns-then-is_at
returns-then-is_at c =
    let at = c.is_at.ensures c.if-is_at.true in
    sym (at_place c.args.schedulers.now c.args.sums.now c.args.near.now c.requires.apart at.0
    (omega (arith, c.requires.few, c.told-sums)))
    ∙ ap (sum_at c.args.schedulers.now c.args.sums.now) at.1
