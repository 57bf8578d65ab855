-- The ticks of one thread in a report, as spans.
use Rattle.std.specs.Prelude.{List}
use Rattle.hls_text.specs.Lines.{Text}
use Rattle.hls_audit_spans.specs.declared.span.Span.{Span}
use Rattle.hls_audit_spans.specs.Spans.{Tell}
use Rattle.hls_report_text.specs.Content.{Content}
use Rattle.hls_legal.specs.Schedule.{is_served}
use Rattle.hls_legal.specs.Ready.{is_ready}

-- in which ticks the thread of a name is ready
abbrev pub TellsReady : Content → (name : Text) → List Span → Type 0
TellsReady c name ready = Tell (is_ready c name) ready c.horizon

-- in which it is served
abbrev pub TellsServed : Content → (name : Text) → List Span → Type 0
TellsServed c name served = Tell (is_served c.stretches name) served c.horizon
