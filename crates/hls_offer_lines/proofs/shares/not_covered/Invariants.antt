use Rattle.hls_offer_best.specs.declared.seat.Seat.{Seat}
use Rattle.hls_offer_lines.specs.Lines.{AreApart, AreInOrder}
use Rattle.hls_offer_lines.proofs.Coverings.{StandBefore, EachBefore}
use Rattle.hls_offer_lines.proofs.shares.not_covered.Given as goal

abbrev pub invariant-loop-top : goal.invariant-loop-top
invariant-loop-top l = record {
  stand : StandBefore l.tops l.share l.more.items l.top-index;
  each : EachBefore l.tops l.share l.more.items l.top-index;
  apart : AreApart l.tops → AreApart l.more.items;
  order : (seat : Seat) → AreInOrder seat l.tops → AreInOrder seat l.more.items;
}
