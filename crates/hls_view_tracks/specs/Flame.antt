-- The flame of a schedule: who was given the processor, from the root down.
use Rattle.std.specs.Prelude.{ℕ, List, [], ◌∷◌, ◌++◌, Option, Some, None, Bool, true, false, ◌&&◌, if◌then◌else◌}
use Rattle.std.specs.Str.{bytes_eq}
use Rattle.hls_text.specs.Lines.{Text}
use Rattle.hls_report_text.specs.declared.stretch.Stretch.{Stretch}
use Rattle.hls_view_trace.specs.declared.event.Category.TheVariants.{Run}
use Rattle.hls_view_trace.specs.declared.event.Place.{Place}
use Rattle.hls_view_trace.specs.declared.event.Event.{Event}
use Rattle.hls_view_trace.specs.declared.event.Event.TheVariants.{Slice}

-- the names of a path below the processor; none where it is idle
abbrev pub names_in : Option (List Text) → List Text
names_in None = []
names_in (Some names) = names

-- some names are the first of a path, or all of it
abbrev pub begins : (names path : List Text) → Bool
begins [] path = true
begins (name ∷ names) [] = false
begins (name ∷ names) (other ∷ path) = bytes_eq name other && begins names path

-- the last tick of the stretches in a row, behind one that ends at a tick, whose paths begin with these names
abbrev pub last_tick : (names : List Text) → (to : ℕ) → List Stretch → ℕ
last_tick names to [] = to
last_tick names to (s ∷ more) = if begins names (names_in s.path) then last_tick names s.to more else to

abbrev pub run_slice : Place → (name : Text) → (from to : ℕ) → Event
run_slice place name from to =
    Slice (record { category = Run; name = name; place = place; from = from; to = to; counts = None })

-- the slice of the last of these names, which begins with a stretch unless the path before it begins so already
abbrev pub slice_of : Place → (before : List Text) → Stretch → List Stretch → (names : List Text) → (name : Text)
    → List Event
slice_of place before s more names name = if begins names before then []
    else run_slice place name s.from (last_tick names s.to more) ∷ []

-- of the names of its path behind those above, one after the other
abbrev pub slices_below : Place → (before : List Text) → Stretch → List Stretch → (above below : List Text)
    → List Event
slices_below place before s more above [] = []
slices_below place before s more above (name ∷ below) =
    slice_of place before s more (above ++ name ∷ []) name
    ++ slices_below place before s more (above ++ name ∷ []) below

-- of all stretches, behind a path
abbrev pub flame : Place → (before : List Text) → List Stretch → List Event
flame place before [] = []
flame place before (s ∷ more) =
    slices_below place before s more [] (names_in s.path) ++ flame place (names_in s.path) more
