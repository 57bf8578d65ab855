use Rattle.std.proofs.Common.{arith}
use Rattle.hls_offer_lines.proofs.Reserving.{ranges-more, each-more}
use Rattle.hls_offer_lines.proofs.terms.all_periods.Goals as goal

pub loop-y-preserved : goal.loop-y-preserved
loop-y-preserved c = record {
  ranges = ranges-more c.loop-y.all.items c.push.new.self.items c.loop-y.y (omega arith) (omega arith)
      c.in_ok-push.ensures.items c.loop-y.invariant.ranges;
  each = each-more c.loop-y.all.items c.push.new.self.items c.loop-y.y c.in_ok-push.ensures.items
      c.loop-y.invariant.each;
}
