use Rattle.std.proofs.Common.{ℕ, Bool, ◌-◌, ◌≤◌}
use Rattle.hls_audit_spans.specs.Spans.{Tell}
use Rattle.hls_view_margins.specs.Rows.{IsLongestOf}
use Rattle.hls_view_margins.specs.Inside.Tests.{counts, Since}
use Rattle.hls_view_margins.proofs.rows.longest_row.Given as goal

abbrev pub invariant-loop-tick : goal.invariant-loop-tick
invariant-loop-tick l = record {
  order : l.since ≤ l.tick;
  ends : l.tick ≤ l.hi;
  since : (f g : ℕ → Bool) (end : ℕ) → Tell f l.ready.spans.items end → Tell g l.served.spans.items end → l.hi ≤ end →
      Since (counts l.waiting f g) l.lo l.tick l.since;
  longest : (f g : ℕ → Bool) (end : ℕ) → Tell f l.ready.spans.items end → Tell g l.served.spans.items end →
      l.hi ≤ end → IsLongestOf (counts l.waiting f g) l.lo l.tick l.longest;
}

abbrev pub decreases-loop-tick : goal.decreases-loop-tick
decreases-loop-tick l = l.hi - l.tick
