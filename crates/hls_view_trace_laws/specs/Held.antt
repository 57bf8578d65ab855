-- Which slices hold a tick.
use Rattle.std.specs.Prelude.{ℕ, ◌&&◌, nat_le, List, [], Bool, false, map, filter}
use Rattle.hls_text.specs.Lines.{Text}
use Rattle.hls_view_trace.specs.declared.event.Event.{Event}
use Rattle.hls_view_trace.specs.declared.event.Event.TheVariants.{Slice}

abbrev pub holds : (t : ℕ) → Event → Bool
holds t (Slice s) = nat_le s.from t && nat_le t s.to
holds t _ = false

abbrev pub slice_name : Event → Text
slice_name (Slice s) = s.name
slice_name _ = []

-- the names of the slices that hold a tick, in their order
abbrev pub names_at : (t : ℕ) → List Event → List Text
names_at t events = map slice_name (filter (holds t) events)
