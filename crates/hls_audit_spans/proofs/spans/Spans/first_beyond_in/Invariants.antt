use Rattle.std.proofs.Common.{ℕ, ◌≤◌, Bool}
use Rattle.std.specs.Prelude.{slice_get}
use Rattle.hls_audit_spans.specs.Spans.{Tell}
use Rattle.hls_audit_spans.proofs.Beyond.{IsWithin}
use Rattle.hls_audit_spans.proofs.spans.Spans.first_beyond_in.Given as goal

abbrev pub invariant-loop-at : goal.invariant-loop-at
invariant-loop-at l = (f g : ℕ → Bool) (end : ℕ) → Tell f l.self.spans.items end → Tell g l.others.spans.items end
    → l.until ≤ end → IsWithin f g l.since (slice_get l.others.spans.items l.at) end l.from
