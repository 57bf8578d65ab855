-- The texts of events. A tick stands for so many microseconds.
use Rattle.std.specs.Prelude.{ℕ, ◌+◌, ◌-◌, ◌*◌, [], ◌∷◌, Option, Some, None, codes, decimal}
use Rattle.hls_text.specs.Lines.{Text}
use Rattle.hls_view_pieces.specs.Pieces.{as_one}
use Rattle.hls_view_trace.specs.declared.event.Category.{Category}
use Rattle.hls_view_trace.specs.declared.event.Category.TheVariants.{Run, Ready, Stay, Done, Refused}
use Rattle.hls_view_trace.specs.declared.event.Counts.{Counts}
use Rattle.hls_view_trace.specs.declared.event.Place.{Place}
use Rattle.hls_view_trace.specs.declared.event.Slice.{Slice}
use Rattle.hls_view_trace.specs.declared.event.Instant.{Instant}
use Rattle.hls_view_trace.specs.declared.event.Event.{Event}
use Rattle.hls_view_trace.specs.declared.event.Event.TheVariants as events

-- ---- what an event is of

abbrev pub category_text : Category → Text
category_text Run = codes "run"
category_text Ready = codes "ready"
category_text Stay = codes "stay"
category_text Done = codes "done"
category_text Refused = codes "refused"

unfoldable pub of_process : (what : Text) → (process : ℕ) → Text
of_process what process = as_one (codes "{\"ph\":\"M\",\"name\":\"process_" ∷ what ∷ codes "\",\"pid\":"
    ∷ decimal process ∷ [])

unfoldable pub of_track : (what : Text) → Place → Text
of_track what place = as_one (codes "{\"ph\":\"M\",\"name\":\"thread_" ∷ what ∷ codes "\",\"pid\":"
    ∷ decimal place.process ∷ codes ",\"tid\":" ∷ decimal place.track ∷ [])

-- ---- what is told of it

unfoldable pub name_text : Text → Text
name_text name = as_one (codes ",\"args\":{\"name\":\"" ∷ name ∷ codes "\"}}" ∷ [])

unfoldable pub order_text : ℕ → Text
order_text order = as_one (codes ",\"args\":{\"sort_index\":" ∷ decimal order ∷ codes "}}" ∷ [])

abbrev pub counts_text : Option Counts → Text
counts_text None = []
counts_text (Some counts) = as_one (codes "\"ready\":" ∷ decimal counts.ready ∷ codes ",\"served\":"
    ∷ decimal counts.served ∷ [])

-- ---- slices and instants

-- in microseconds, from a tick to another, both included
abbrev pub duration : (tick from to : ℕ) → ℕ
duration tick from to = (to + 1 - from) * tick

-- where something is shown
unfoldable pub mark_text : (category name : Text) → Place → (stamp : ℕ) → Text
mark_text category name place stamp = as_one (codes ",\"cat\":\"" ∷ category ∷ codes "\",\"name\":\"" ∷ name
    ∷ codes "\",\"pid\":" ∷ decimal place.process ∷ codes ",\"tid\":" ∷ decimal place.track ∷ codes ",\"ts\":"
    ∷ decimal stamp ∷ [])

unfoldable pub slice_text : (tick : ℕ) → Slice → Text
slice_text tick slice = as_one (codes "{\"ph\":\"X\""
    ∷ mark_text (category_text slice.category) slice.name slice.place (slice.from * tick)
    ∷ codes ",\"dur\":" ∷ decimal (duration tick slice.from slice.to) ∷ codes ",\"args\":{"
    ∷ counts_text slice.counts ∷ codes "}}" ∷ [])

unfoldable pub instant_text : (tick : ℕ) → Instant → Text
instant_text tick instant = as_one (codes "{\"ph\":\"i\",\"s\":\"t\""
    ∷ mark_text (category_text instant.category) instant.name instant.place (instant.tick * tick)
    ∷ codes ",\"args\":{\"answer\":\"" ∷ instant.answer ∷ codes "\"}}" ∷ [])

-- ---- events

unfoldable pub event_text : (tick : ℕ) → Event → Text
event_text tick (events.ProcessName process name) =
    as_one (of_process (codes "name") process ∷ name_text name ∷ [])
event_text tick (events.ProcessOrder process order) =
    as_one (of_process (codes "sort_index") process ∷ order_text order ∷ [])
event_text tick (events.TrackName place name) = as_one (of_track (codes "name") place ∷ name_text name ∷ [])
event_text tick (events.TrackOrder place order) =
    as_one (of_track (codes "sort_index") place ∷ order_text order ∷ [])
event_text tick (events.Slice slice) = slice_text tick slice
event_text tick (events.Instant instant) = instant_text tick instant
