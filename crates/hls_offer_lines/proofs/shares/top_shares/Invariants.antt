use Rattle.std.specs.Prelude.{Contains}
use Rattle.hls_guarantee.specs.declared.Guarantee.{Guarantee}
use Rattle.hls_offer_lines.specs.Lines.{AreApart, AreInOrder}
use Rattle.hls_offer_lines.proofs.Ports.{CoveredBelow, IsFoundBelow}
use Rattle.hls_offer_lines.proofs.shares.top_shares.Given as goal

abbrev pub invariant-loop-have : goal.invariant-loop-have
invariant-loop-have g l = record {
  each : (share : Guarantee) → Contains l.tops.items share → IsFoundBelow l.seat l.have-index share;
  apart : AreApart l.tops.items;
  below : CoveredBelow l.seat l.tops.items l.have-index;
  order : AreInOrder l.seat l.tops.items;
}
