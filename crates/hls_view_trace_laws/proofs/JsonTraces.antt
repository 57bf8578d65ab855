-- The text of a trace in JSON.
use Rattle.std.proofs.Common.{ℕ, ◌<◌, ◌^◌, List, [], ◌∷◌, ◌++◌, refl, sym, arith, subst}
use Rattle.std.proofs.Common.{append_assoc}
use Rattle.std.specs.Prelude.{codes, decimal, flat_map}
use Rattle.std.specs.List.{AllByRecursion}
use Rattle.hls_text.specs.Lines.{Text}
use Rattle.hls_view_trace.specs.declared.event.Event.{Event}
use Rattle.hls_view_trace.specs.declared.event.Trace.{Trace}
use Rattle.hls_view_trace.specs.Events.{event_text}
use Rattle.hls_view_trace.specs.Traces.{head_text, next_text, events_text, trace_text}
use Rattle.hls_view_trace_laws.specs.Json.{object, array, IsObject, members, MayEnd, more, end}
use Rattle.hls_view_trace_laws.specs.Json.{IsArray, empty, items, item, MayClose, further, close, IsJson}
use Rattle.hls_view_trace_laws.specs.Plain.{IsPlain, IsPlainEvent, IsPlainTrace}
use Rattle.hls_view_trace_laws.proofs.JsonTexts.{onto, named, text_value, number_value, event_is}

closing : (tick : ℕ) (events : List Event) (rest : Text) → tick < 2 ^ 32 → AllByRecursion IsPlainEvent events
    → MayClose (flat_map (next_text tick) events ++ 10 ∷ 93 ∷ rest) rest
closing tick [] rest few told = close {rest = rest} (10 ∷ []) refl
closing tick (event ∷ events) rest few told =
    let later : Text = flat_map (next_text tick) events ++ 10 ∷ 93 ∷ rest in
    subst (λ (t : Text). MayClose (44 ∷ 10 ∷ t) rest)
    (sym (append_assoc (event_text tick event) (flat_map (next_text tick) events) (10 ∷ 93 ∷ rest)))
    (further (item (10 ∷ []) refl (object (event_is tick event later few told.0))
    (closing tick events rest few told.1)))

array_is : (tick : ℕ) (events : List Event) (rest : Text) → tick < 2 ^ 32 → AllByRecursion IsPlainEvent events
    → IsArray (91 ∷ 10 ∷ (events_text tick events ++ 10 ∷ 93 ∷ rest)) rest
array_is tick [] rest few told = empty {rest = rest} (10 ∷ 10 ∷ []) refl
array_is tick (event ∷ events) rest few told =
    let later : Text = flat_map (next_text tick) events ++ 10 ∷ 93 ∷ rest in
    subst (λ (t : Text). IsArray (91 ∷ 10 ∷ t) rest)
    (sym (append_assoc (event_text tick event) (flat_map (next_text tick) events) (10 ∷ 93 ∷ rest)))
    (items (item (10 ∷ []) refl (object (event_is tick event later few told.0))
    (closing tick events rest few told.1)))

head_is : (horizon tick : ℕ) (verdict tail after rest : Text) → horizon < 2 ^ 32 → tick < 2 ^ 32 → IsPlain verdict
    → IsArray (91 ∷ 10 ∷ tail) after → MayEnd after rest
    → IsObject (head_text horizon tick verdict ++ tail) rest
unfolding head_text
head_is horizon tick verdict tail after rest late few plain_verdict one next =
    subst (λ (t : Text). IsObject t rest)
    (sym (onto (codes "{\"displayTimeUnit\":\"ms\",\"otherData\":{\"horizon\":"
    ∷ decimal horizon ∷ codes ",\"tick\":" ∷ decimal tick ∷ codes ",\"audit\":\"" ∷ verdict
    ∷ codes "\"},\"traceEvents\":[\n" ∷ []) tail))
    (members (named (codes "displayTimeUnit") refl (text_value (codes "ms") _ refl)
    (more (named (codes "otherData") refl
    (object (members (named (codes "horizon") refl (number_value horizon _ (omega (arith, late)))
    (more (named (codes "tick") refl (number_value tick _ (omega (arith, few)))
    (more (named (codes "audit") refl (text_value verdict _ plain_verdict)
    (end {rest = codes ",\"traceEvents\":[\n" ++ tail} [] refl))))))))
    (more (named (codes "traceEvents") refl (array one) next))))))

pub trace_is_json : (t : Trace) → IsPlainTrace t → IsJson (trace_text t)
unfolding trace_text
trace_is_json t told = record {
  rest = 10 ∷ [];
  blank = refl;
  one =
      let tail : Text = events_text t.tick t.events ++ 10 ∷ 93 ∷ 125 ∷ 10 ∷ [] in
      head_is t.horizon t.tick t.verdict tail (125 ∷ 10 ∷ []) (10 ∷ []) told.horizon told.tick told.verdict
      (array_is t.tick t.events (125 ∷ 10 ∷ []) told.tick told.events) (end {rest = 10 ∷ []} [] refl);
}
