use Rattle.std.proofs.Common.{ℕ, Bool, ◌-◌, ◌≤◌}
use Rattle.hls_audit_spans.specs.Spans.{Tell}
use Rattle.hls_view_margins.specs.Inside.Windows.{AreJudged}
use Rattle.hls_view_margins.proofs.spares.judge.Given as goal

abbrev pub invariant-loop-from : goal.invariant-loop-from
invariant-loop-from l = record {
  within : l.from ≤ l.stay.hi;
  judged : (f g : ℕ → Bool) (end : ℕ) → Tell f l.ready.spans.items end → Tell g l.served.spans.items end →
      l.stay.hi ≤ end → AreJudged l.kept l.scale f g l.stay.lo l.stay.hi l.from l.least;
}

abbrev pub decreases-loop-from : goal.decreases-loop-from
decreases-loop-from l = l.stay.hi - l.from
