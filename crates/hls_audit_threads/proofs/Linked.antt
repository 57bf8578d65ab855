-- What the spans of ready ticks tell and ask for.
use Rattle.std.proofs.Common.{◌≡◌, ℕ, ◌≤◌, List}
use Rattle.std.proofs.Common.{subst, arith}
use Rattle.std.specs.Prelude.{Some, slice_get}
use Rattle.hls_text.specs.Lines.{Text}
use Rattle.hls_audit_spans.specs.declared.span.Span.{Span}
use Rattle.hls_audit_spans.specs.Spans.{Tell}
use Rattle.hls_report_text.specs.declared.report.Answered.{Answered}
use Rattle.hls_report_text.specs.Content.{Content}
use Rattle.hls_report_text.specs.WellFormed.{IsContent}
use Rattle.hls_legal.specs.Ready.{is_ready}
use Rattle.hls_legal.specs.Schedule.{is_served}
use Rattle.hls_audit_threads.specs.Inside.Ticks.{TellsReady}
use Rattle.hls_audit_threads.proofs.Formed.{command_early}
use Rattle.hls_audit_threads.proofs.LineLaws.{awake}

pub ready_told : (c : Content) (all : List Answered) (name : Text) (ready : List Span) → all ≡ c.answered
    → Tell (awake all name (is_served c.stretches name)) ready c.horizon → TellsReady c name ready
unfolding is_ready
ready_told c all name ready e tell =
    subst (λ (l : List Answered). Tell (awake l name (is_served c.stretches name)) ready c.horizon) e tell

pub commands_early : (c : Content) (all : List Answered) (long : ℕ) → IsContent c → all ≡ c.answered → long ≡ c.horizon
    → (at : ℕ) (a : Answered) → slice_get all at ≡ Some a → a.tick ≤ long
commands_early c all long formed is e at a there =
    let early = command_early c a at formed
    (subst (λ (l : List Answered). slice_get l at ≡ Some a) is there) in
    omega (arith, early, e)
