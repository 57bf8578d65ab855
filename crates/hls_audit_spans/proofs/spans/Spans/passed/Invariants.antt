use Rattle.std.proofs.Common.{◌-◌}
use Rattle.hls_audit_spans.proofs.Halves.{IsBetween}
use Rattle.hls_audit_spans.proofs.spans.Spans.passed.Given as goal

abbrev pub invariant-loop-low : goal.invariant-loop-low
invariant-loop-low l = IsBetween (λ s. s.from - s.idle) l.self.spans.items l.ticks l.low l.high

abbrev pub decreases-loop-low : goal.decreases-loop-low
decreases-loop-low l = l.high - l.low
