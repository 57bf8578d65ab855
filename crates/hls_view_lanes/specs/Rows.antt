-- The rows of a picture.
use Rattle.std.specs.Prelude.{ℕ, zero, suc, ◌+◌, ◌-◌, List, [], ◌∷◌, Bool, fold, map, filter, flat_map, reverse, take}
use Rattle.std.specs.Prelude.{length, if◌then◌else◌}
use Rattle.std.specs.List.{list_any, insert, range_with_len}
use Rattle.std.specs.Ordering.{is_lt, nat_cmp}
use Rattle.std.specs.Cmp.Lexicographic.{slice_cmp}
use Rattle.std.specs.Str.{bytes_eq}
use Rattle.hls_text.specs.Lines.{Text}
use Rattle.hls_report_text.specs.Content.{Content}
use Rattle.hls_view_tale.specs.declared.label.Label.{Label}
use Rattle.hls_view_tale.specs.declared.place.Place.{Place}
use Rattle.hls_view_tale.specs.declared.standing.Standing.{Standing}
use Rattle.hls_view_tale.specs.Places.{labels_of}
use Rattle.hls_view_tale.specs.Hierarchies.{places_at, standing_at}
use Rattle.hls_view_lanes.specs.Likeness.{begins, is_same}

-- ---- the ways down

-- those to all places of a tick: each before those below it, those on one scheduler in the order of stays
abbrev pub ways_at : Content → (t : ℕ) → List (List Label)
ways_at c t = map labels_of (places_at c t)

-- by which ports a way leads, from its end upwards
abbrev pub ports_up : (way : List Label) → List ℕ
ports_up way = reverse (map (λ (l : Label). l.port) way)

-- where these differ first, the lower port
abbrev pub comes_before : (way other : List Label) → Bool
comes_before way other = is_lt (slice_cmp nat_cmp (ports_up way) (ports_up other))

-- a way more, behind those that come before it
abbrev pub with_way : List (List Label) → (way : List Label) → List (List Label)
with_way ways way = insert ways (length (filter (λ other. comes_before other way) ways)) way

-- those to one who is there: port by port, and for each port in the order of those to what it is on
abbrev pub ways_to : List Place → (name : Text) → List (List Label)
ways_to places name = fold with_way [] (map labels_of (filter (λ (p : Place). bytes_eq p.label.name name) places))

-- those to all who are there, one after another
abbrev pub by_stays : List Standing → List Place → List (List Label)
by_stays standing places = flat_map (λ (s : Standing). ways_to places s.name) standing

-- those of a tick in the order of stays
abbrev pub ways_by_stays : Content → (t : ℕ) → List (List Label)
ways_by_stays c t = by_stays (standing_at c t) (places_at c t)

-- ---- the rows

abbrev pub has_row : List (List Label) → (way : List Label) → Bool
has_row rows way = list_any (λ row. is_same row way) rows

-- the way to what it ends on
abbrev pub above_of : (way : List Label) → List Label
above_of way = take (length way - 1) way

-- how many rows there are up to the last that begins with a way
abbrev pub reach : (above : List Label) → List (List Label) → ℕ
reach above [] = 0
reach above (row ∷ rows) = if list_any (begins above) (row ∷ rows) then suc (reach above rows) else 0

-- a new row comes behind the one above it and all that are below that one
abbrev pub with_row : List (List Label) → (way : List Label) → List (List Label)
with_row rows way = if has_row rows way then rows else insert rows (reach (above_of way) rows) way

-- from that of the processor to itself
abbrev pub beginnings : (way : List Label) → List (List Label)
beginnings way = map (λ n. take n way) (range_with_len 0 (length way + 1))

-- a way without a row gets one, behind those of its beginnings
abbrev pub with_rows : List (List Label) → (way : List Label) → List (List Label)
with_rows rows way = if has_row rows way then rows else fold with_row rows (beginnings way)

-- the rows of so many ticks from one on: that of the processor, and a row for each way, as the stays come
unfoldable pub rows_of : Content → (from ticks : ℕ) → List (List Label)
rows_of c from zero = [] ∷ []
rows_of c from (suc ticks) = fold with_rows (rows_of c from ticks) (ways_by_stays c (from + ticks))
