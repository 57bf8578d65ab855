-- Events whose texts have no byte that JSON must escape, and whose numbers are as large as they may be held.
use Rattle.std.specs.Prelude.{◌≡◌, ◌^◌, ◌<◌, true, Option, Some, None}
use Rattle.std.specs.List.{AllByRecursion, list_all}
use Rattle.hls_text.specs.Lines.{Text}
use Rattle.hls_view_trace.specs.declared.event.Counts.{Counts}
use Rattle.hls_view_trace.specs.declared.event.Place.{Place}
use Rattle.hls_view_trace.specs.declared.event.Event.{Event}
use Rattle.hls_view_trace.specs.declared.event.Event.TheVariants as events
use Rattle.hls_view_trace.specs.declared.event.Trace.{Trace}
use Rattle.hls_view_trace_laws.specs.Json.{is_plain}

abbrev pub IsPlain : Text → Type 0
IsPlain text = list_all is_plain text ≡ true

abbrev pub IsHeldPlace : Place → Type 0
IsHeldPlace place = (place.process < 2 ^ 64) × (place.track < 2 ^ 64)

abbrev pub AreHeldCounts : Option Counts → Type 0
AreHeldCounts None = Unit {0}
AreHeldCounts (Some counts) = (counts.ready < 2 ^ 32) × (counts.served < 2 ^ 32)

abbrev pub IsPlainEvent : Event → Type 0
IsPlainEvent (events.ProcessName process name) = (process < 2 ^ 64) × IsPlain name
IsPlainEvent (events.ProcessOrder process order) = (process < 2 ^ 64) × (order < 2 ^ 64)
IsPlainEvent (events.TrackName place name) = IsHeldPlace place × IsPlain name
IsPlainEvent (events.TrackOrder place order) = IsHeldPlace place × (order < 2 ^ 64)
IsPlainEvent (events.Slice s) = IsHeldPlace s.place × IsPlain s.name × (s.from < 2 ^ 32) × (s.to < 2 ^ 32)
    × AreHeldCounts s.counts
IsPlainEvent (events.Instant i) = IsHeldPlace i.place × IsPlain i.name × (i.tick < 2 ^ 32) × IsPlain i.answer

pub record IsPlainTrace (t : Trace) : Type 0 where
  pub horizon : t.horizon < 2 ^ 32
  pub tick : t.tick < 2 ^ 32
  pub verdict : IsPlain t.verdict
  pub events : AllByRecursion IsPlainEvent t.events
