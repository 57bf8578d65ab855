use Rattle.std.proofs.Common.{ℕ, Bool, ◌-◌, ◌≤◌}
use Rattle.hls_audit_spans.specs.Spans.{Tell}
use Rattle.hls_view_margins.proofs.Turns.{IsBracket}
use Rattle.hls_view_margins.proofs.rows.turn_off.Given as goal

abbrev pub invariant-loop-low : goal.invariant-loop-low
invariant-loop-low l = record {
  begins : l.from ≤ l.low;
  order : l.low ≤ l.high;
  ends : l.high ≤ l.until;
  bracket : (f : ℕ → Bool) (end : ℕ) → Tell f l.ticks.spans.items end → l.until ≤ end →
      IsBracket f l.from l.until l.low l.high;
}

abbrev pub decreases-loop-low : goal.decreases-loop-low
decreases-loop-low l = l.high - l.low
