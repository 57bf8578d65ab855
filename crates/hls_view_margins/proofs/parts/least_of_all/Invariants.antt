use Rattle.std.proofs.Common.{ℕ, Bool, ◌≤◌}
use Rattle.hls_audit_spans.specs.Spans.{Tell}
use Rattle.hls_view_margins.specs.First.{IsFirstOf}
use Rattle.hls_view_margins.specs.Parts.{IsPart}
use Rattle.hls_view_margins.specs.Inside.Runs.{Leads}
use Rattle.hls_view_margins.proofs.parts.least_of_all.Given as goal

abbrev pub invariant-loop-tick : goal.invariant-loop-tick
invariant-loop-tick l = record {
  order : l.since ≤ l.tick;
  run : (f : ℕ → Bool) (end : ℕ) → Tell f l.served.spans.items end → l.hi ≤ end → Leads l.scale f l.lo l.tick l.since;
  first : (f : ℕ → Bool) (end : ℕ) → Tell f l.served.spans.items end → l.hi ≤ end →
      IsFirstOf l.scale (IsPart f l.lo l.tick) l.first;
}
