-- The texts of traces.
use Rattle.std.specs.Prelude.{ℕ, List, [], ◌∷◌, ◌++◌, codes, decimal, flat_map}
use Rattle.hls_text.specs.Lines.{Text}
use Rattle.hls_view_pieces.specs.Pieces.{as_one}
use Rattle.hls_view_trace.specs.declared.event.Event.{Event}
use Rattle.hls_view_trace.specs.declared.event.Trace.{Trace}
use Rattle.hls_view_trace.specs.Events.{event_text}

unfoldable pub head_text : (horizon tick : ℕ) → (verdict : Text) → Text
head_text horizon tick verdict = as_one (codes "{\"displayTimeUnit\":\"ms\",\"otherData\":{\"horizon\":"
    ∷ decimal horizon ∷ codes ",\"tick\":" ∷ decimal tick ∷ codes ",\"audit\":\"" ∷ verdict
    ∷ codes "\"},\"traceEvents\":[\n" ∷ [])

-- an event behind another
abbrev pub next_text : (tick : ℕ) → Event → Text
next_text tick event = codes ",\n" ++ event_text tick event

-- a line for each event
abbrev pub events_text : (tick : ℕ) → List Event → Text
events_text tick [] = []
events_text tick (event ∷ events) = event_text tick event ++ flat_map (next_text tick) events

unfoldable pub trace_text : Trace → Text
trace_text t =
    as_one (head_text t.horizon t.tick t.verdict ∷ events_text t.tick t.events ∷ codes "\n]}\n" ∷ [])
