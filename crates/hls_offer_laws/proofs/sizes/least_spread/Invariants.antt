use Rattle.std.proofs.Common.{ℕ, ◌-◌, ◌≤◌, ◌<◌}
use Rattle.hls_offer_laws.specs.Candidates.{Spreads}
use Rattle.hls_offer_laws.proofs.sizes.least_spread.Given as goal

abbrev pub invariant-loop-low : goal.invariant-loop-low
invariant-loop-low l = record {
  some : 1 ≤ l.low;
  in_order : l.low ≤ l.high;
  fits : l.high ≤ l.fn.y;
  held : Spreads l.fn.ticks l.fn.period l.high l.fn.y;
  none : (less : ℕ) → less < l.low → Spreads l.fn.ticks l.fn.period less l.fn.y → ⊥;
}

abbrev pub decreases-loop-low : goal.decreases-loop-low
decreases-loop-low l = l.high - l.low
