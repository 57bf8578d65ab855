use Rattle.std.proofs.Common.{◌≡◌, ◌+◌, ◌≤◌, ℕ, Bool, length}
use Rattle.std.specs.Prelude.{slice_get}
use Rattle.hls_audit_spans.specs.Spans.{Tell}
use Rattle.hls_audit_spans.proofs.Marks.{IsMarked}
use Rattle.hls_audit_spans.proofs.spans.Spans.mark.Given as goal

abbrev pub invariant-loop-at : goal.invariant-loop-at
invariant-loop-at l = record {
  long : l.from + length l.list ≡ l.until;
  ticks : (f : ℕ → Bool) (end : ℕ) → Tell f l.self.spans.items end → l.until ≤ end
      → IsMarked f l.from l.list (slice_get l.self.spans.items l.at) end;
}
