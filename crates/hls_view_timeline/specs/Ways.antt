-- The ways down to a thread, in the order of ports.
use Rattle.std.specs.Prelude.{ℕ, ◌==◌, ◌&&◌, ◌||◌, nat_lt, List, [], ◌∷◌, Bool, false, filter, fold, map, reverse}
use Rattle.std.specs.List.{count_by, insert}
use Rattle.std.specs.Str.{bytes_eq}
use Rattle.hls_text.specs.Lines.{Text}
use Rattle.hls_report_text.specs.Content.{Content}
use Rattle.hls_view_tale.specs.declared.label.Label.{Label}
use Rattle.hls_view_tale.specs.declared.place.Place.{Place}
use Rattle.hls_view_tale.specs.Places.{labels_of}
use Rattle.hls_view_tale.specs.Hierarchies.{places_at}

-- a way from below upwards leaves by an earlier port than another, where they part first
abbrev pub parts_before : (a b : List Label) → Bool
parts_before [] b = false
parts_before (l ∷ a) [] = false
parts_before (l ∷ a) (m ∷ b) = nat_lt l.port m.port || (l.port == m.port && parts_before a b)

abbrev pub comes_before : (a b : List Label) → Bool
comes_before a b = parts_before (reverse a) (reverse b)

-- a way stands behind those that come before it
abbrev pub with_way : List (List Label) → (way : List Label) → List (List Label)
with_way ways way = insert ways (count_by (λ other. comes_before other way) ways) way

abbrev pub has_name : (name : Text) → Place → Bool
has_name name p = bytes_eq p.label.name name

-- of places with a name: port by port, and for each port by those of the scheduler that it is on
abbrev pub ways_among : (name : Text) → List Place → List (List Label)
ways_among name places = fold with_way [] (map labels_of (filter (has_name name) places))

abbrev pub ways_to : Content → (t : ℕ) → (name : Text) → List (List Label)
ways_to c t name = ways_among name (places_at c t)
