-- Longest rows of ticks as slices. Some ticks in a row are told by whether each of them is on, from the first.
use Rattle.std.specs.Prelude.{ℕ, suc, ◌+◌, ◌-◌, ◌==◌, ◌&&◌, ◌||◌, not, List, [], ◌∷◌, ◌++◌, Bool, true, false}
use Rattle.std.specs.Prelude.{None, drop, flat_map, get_or, length, if◌then◌else◌}
use Rattle.std.specs.List.{range_with_len}
use Rattle.hls_view_trace.specs.Events.{category_text}
use Rattle.hls_view_trace.specs.declared.event.Category.{Category}
use Rattle.hls_view_trace.specs.declared.event.Category.TheVariants.{Ready, Run}
use Rattle.hls_view_trace.specs.declared.event.Place.{Place}
use Rattle.hls_view_trace.specs.declared.event.Event.{Event}
use Rattle.hls_view_trace.specs.declared.event.Event.TheVariants.{Slice}

-- a longest row begins: the tick is on, and is the first, or the one before it is off
abbrev pub begins : List Bool → (at : ℕ) → Bool
begins on at = get_or on at false && (at == 0 || not (get_or on (at - 1) false))

-- how many are on in a row from the first
abbrev pub run_length : List Bool → ℕ
run_length [] = 0
run_length (true ∷ on) = suc (run_length on)
run_length (false ∷ on) = 0

-- ticks from one on, on a track
abbrev pub row_slice : Category → Place → (from ticks : ℕ) → Event
row_slice category place from ticks = Slice (record {
  category = category;
  name = category_text category;
  place = place;
  from = from;
  to = from + ticks - 1;
  counts = None;
})

-- the slice of the longest row that begins so many ticks behind the first
abbrev pub slice_at : Category → Place → (from : ℕ) → List Bool → (at : ℕ) → List Event
slice_at category place from on at = if begins on at
    then row_slice category place (from + at) (run_length (drop at on)) ∷ [] else []

-- in the order of first ticks, a window before what is served
abbrev pub inner_slices : Place → (from : ℕ) → (ready taken : List Bool) → List Event
inner_slices place from ready taken =
    flat_map (λ at. slice_at Ready place from ready at ++ slice_at Run place from taken at)
    (range_with_len 0 (length ready))
