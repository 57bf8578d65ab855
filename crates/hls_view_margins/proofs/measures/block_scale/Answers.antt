use Rattle.std.proofs.Common.{arith}
use Rattle.hls_view_margins.proofs.Products.{price_small}
use Rattle.hls_view_margins.proofs.measures.block_scale.Goals as goal

pub invariant_of-result : goal.invariant_of-result
invariant_of-result c =
    let size = c.requires.size in
    let x = c.from.ensures in
    let w = c.from-whole.ensures in
    let p = c.parts.ensures.within in
    record {
      base_small =
          price_small c.from.result c.from-whole.result (omega (arith, x, size)) (omega (arith, w));
      tick_small = omega (arith, p);
      got_small = omega arith;
    }
