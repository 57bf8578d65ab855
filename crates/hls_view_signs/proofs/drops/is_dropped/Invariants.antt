use Rattle.std.proofs.Common.{◌≡◌, ℕ, ◌<◌, drop}
use Rattle.std.specs.Prelude.{IfSome}
use Rattle.std.specs.List.{list_any}
use Rattle.hls_text.specs.Lines.{Text}
use Rattle.hls_report_text.specs.Content.{Content}
use Rattle.hls_audit_threads.specs.Inside.Ticks.{TellsServed}
use Rattle.hls_view_jobs.specs.declared.job.Word.{Word}
use Rattle.hls_view_jobs.specs.Jobs.{releases}
use Rattle.hls_view_signs.specs.Happenings.{is_dropped}
use Rattle.hls_view_signs.specs.Inside.Words.{any_released, AreEarly}
use Rattle.hls_view_signs.proofs.drops.is_dropped.Given as goal

abbrev pub invariant-loop-at : goal.invariant-loop-at
invariant-loop-at l = record {
  last : (t : ℕ) → AreEarly t l.words → IfSome l.last (λ (w : Word). w.tick < t);
  left : (c : Content) (name : Text) → TellsServed c name l.served.spans.items → AreEarly c.horizon l.words
      → list_any (is_dropped c l.tick name) (releases l.words)
      ≡ any_released (is_dropped c l.tick name) l.last (drop l.at l.words);
}
