use Rattle.std.proofs.Common.{ℕ, Bool, ◌+◌, ◌-◌, ◌≤◌}
use Rattle.hls_audit_spans.specs.Spans.{Tell}
use Rattle.hls_view_margins.specs.First.{IsFirstOf}
use Rattle.hls_view_margins.specs.Parts.{IsLong}
use Rattle.hls_view_margins.proofs.parts.least_of_length.Given as goal

abbrev pub invariant-loop-from : goal.invariant-loop-from
invariant-loop-from l = (f : ℕ → Bool) (end : ℕ) → Tell f l.served.spans.items end → l.hi ≤ end →
    IsFirstOf l.scale (IsLong f l.lo (l.from + l.ticks - 1) l.ticks) l.first
