use Rattle.std.proofs.Common.{arith}
use Rattle.hls_offer_laws.proofs.Sizing.{spreads-none}
use Rattle.hls_offer_laws.proofs.sizes.least_spread.Goals as goal

pub loop-low-preserved : goal.loop-low-preserved
loop-low-preserved c = record {
  some = omega arith;
  in_order = omega arith;
  fits = omega arith;
  held = c.loop-low.invariant.held;
  none = spreads-none c.args.ticks c.args.period _ c.args.y
      c.requires.wanted.some c.requires.some (omega arith)
      (λ held. (let e = c.if-spreads.ensures.1 held in let no : ⊥ = cc in no));
}
