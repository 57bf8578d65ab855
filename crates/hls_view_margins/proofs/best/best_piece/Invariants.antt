use Rattle.std.proofs.Common.{◌≤◌, ℕ, Bool}
use Rattle.hls_audit_spans.specs.Spans.{Tell}
use Rattle.hls_view_margins.specs.Cuts.{IsBestOf}
use Rattle.hls_view_margins.proofs.best.best_piece.Given as goal

abbrev pub invariant-loop-offset : goal.invariant-loop-offset
invariant-loop-offset l = (f : ℕ → Bool) (end : ℕ) → Tell f l.served.spans.items end → l.window.hi ≤ end →
    IsBestOf l.scale f l.window.lo l.window.hi l.blocks.hard l.blocks.most l.blocks.period l.offset l.best
