use Rattle.hls_tree_depths.proofs.Sums.{most_step, there_step}
use Rattle.hls_tree_depths.proofs.sum.greatest_of.Goals as goal

pub loop-at-preserved : goal.loop-at-preserved
loop-at-preserved c = record {
  most = most_step c.args.sums.now c.loop-at.at c.loop-at.greatest _ c.max-greatest.ensures c.loop-at.invariant.most;
  there = there_step c.args.sums.now c.loop-at.at c.loop-at.greatest _ c.max-greatest.ensures
      c.loop-at.invariant.there;
}
