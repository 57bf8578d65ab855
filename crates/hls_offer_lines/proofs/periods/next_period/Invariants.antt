use Rattle.std.specs.Prelude.{IfSome}
use Rattle.hls_offer_lines.specs.Inside.Listing.{IsPeriodAbove}
use Rattle.hls_offer_lines.proofs.Rising.{PeriodsBelow}
use Rattle.hls_offer_lines.proofs.periods.next_period.Given as goal

abbrev pub invariant-loop-one : goal.invariant-loop-one
invariant-loop-one l = record {
  is : IfSome l.next (λ y. IsPeriodAbove l.lent l.last y);
  below : PeriodsBelow l.lent l.last l.next l.one-index;
}
