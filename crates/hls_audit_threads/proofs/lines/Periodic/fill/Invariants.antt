use Rattle.std.proofs.Common.{◌≡◌, ℕ, ◌-◌, ◌<◌, ◌≤◌, Bool}
use Rattle.std.specs.Prelude.{Some}
use Rattle.hls_audit_spans.specs.Spans.{Tell}
use Rattle.hls_releases.specs.Releases.{IsRelease, is_unserved}
use Rattle.hls_audit_threads.proofs.ReleaseLaws.{IsFilledTo}
use Rattle.hls_audit_threads.proofs.lines.Periodic.fill.Given as goal

abbrev pub invariant-loop-used : goal.invariant-loop-used
invariant-loop-used l = record {
  order : l.from ≤ l.release;
  within : l.release ≤ l.until;
  release : l.release < l.until → IsRelease l.self.period l.self.since l.release;
  filled : (f g : ℕ → Bool) (end : ℕ) → Tell f l.served.spans.items end → l.until ≤ end
      → Tell g l.fn.ready.spans.items l.self.since
      → ((t : ℕ) → l.self.since ≤ t → t < l.until
      → g t ≡ is_unserved f (Some l.self.period) l.self.ticks l.self.since t)
      → IsFilledTo g l.ready.spans.items l.from l.release;
}

abbrev pub decreases-loop-used : goal.decreases-loop-used
decreases-loop-used l = l.until - l.release
