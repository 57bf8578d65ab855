-- What becomes of a place at a tick.
use Rattle.std.specs.Prelude.{ℕ, List, [], ◌∷◌, Option, Some, None, Bool, true, false, ◌&&◌, map, filter}
use Rattle.std.specs.Prelude.{if◌then◌else◌}
use Rattle.std.specs.List.{list_any}
use Rattle.std.specs.Str.{bytes_eq}
use Rattle.hls_text.specs.Lines.{Text}
use Rattle.hls_report_text.specs.Content.{Content}
use Rattle.hls_legal.specs.Schedule.{path_at}
use Rattle.hls_legal.specs.Ready.{is_ready}
use Rattle.hls_audit_clauses.specs.Names.{is_thread_sort}
use Rattle.hls_view_tale.specs.declared.label.Label.{Label}
use Rattle.hls_view_tale.specs.declared.place.Place.{Place}
use Rattle.hls_view_tale.specs.Places.{labels_of}
use Rattle.hls_view_tale.specs.Hierarchies.{places_at}
use Rattle.hls_view_tree.specs.declared.activity.Activity.{Activity}
use Rattle.hls_view_tree.specs.declared.activity.Activity.TheVariants.{Served, Ready, Quiet}

-- the names on the way down to a place, its own last
abbrev pub names_of : Place → List Text
names_of place = map (λ (l : Label). l.name) (labels_of place)

-- one way is the first part of another, or all of it
abbrev pub begins : List Text → List Text → Bool
begins [] way = true
begins (name ∷ names) [] = false
begins (name ∷ names) (other ∷ way) = bytes_eq name other && begins names way

-- the path of a tick goes through a place
abbrev pub goes_through : List Text → Option (List Text) → Bool
goes_through names None = false
goes_through names (Some path) = begins names path

-- a thread that is ready at a tick
abbrev pub is_asking : Content → (t : ℕ) → Place → Bool
is_asking c t place = is_thread_sort (Some place.label.sort) && is_ready c place.label.name t

-- the ways down to the threads that are ready
abbrev pub asking : Content → (t : ℕ) → List (List Text)
asking c t = map names_of (filter (is_asking c t) (places_at c t))

-- by the path of a tick, and the ways down to the threads that are ready
abbrev pub activity_by : Option (List Text) → (asking : List (List Text)) → (names : List Text) → Activity
activity_by path asking names =
    if goes_through names path then Served else (if list_any (begins names) asking then Ready else Quiet)

-- of the place with these names on the way down to it; none are those of the processor
abbrev pub activity_at : Content → (t : ℕ) → (names : List Text) → Activity
activity_at c t names = activity_by (path_at c.stretches t) (asking c t) names
