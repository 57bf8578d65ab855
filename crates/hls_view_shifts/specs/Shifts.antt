-- Moves from row to row.
use Rattle.std.specs.Prelude.{ℕ, ◌-◌, ◌==◌, ◌&&◌, Bool, List, Option, Some, None, find, filter_map, length, position}
use Rattle.std.specs.Prelude.{slice_get}
use Rattle.std.specs.Prelude.{if◌then◌else◌}
use Rattle.std.specs.List.{list_all, range_with_len}
use Rattle.std.specs.Str.{bytes_eq}
use Rattle.hls_text.specs.Lines.{Text}
use Rattle.hls_report_text.specs.declared.report.Answered.{Answered}
use Rattle.hls_report_text.specs.Content.{Content}
use Rattle.hls_view_scale.specs.declared.scale.Scale.{Scale}
use Rattle.hls_view_tale.specs.declared.label.Label.{Label}
use Rattle.hls_view_tale.specs.declared.place.Place.{Place}
use Rattle.hls_view_tale.specs.Places.{labels_of}
use Rattle.hls_view_tale.specs.Standings.{standing}
use Rattle.hls_view_tale.specs.Hierarchies.{places_at, standing_at}
use Rattle.hls_view_tree.specs.Stays.{standing_of}
use Rattle.hls_view_lanes.specs.Likeness.{is_same}
use Rattle.hls_view_shifts.specs.declared.shifts.Shift.{Shift}
use Rattle.hls_view_shifts.specs.Moves.{moved_by, is_inside, has_lasted, is_lasting}

-- a place by first ports alone
abbrev pub is_first : Place → Bool
is_first p = p.label.port == 0 && list_all (λ (l : Label). l.port == 0) p.above

-- the first place that a name has, port by port
abbrev pub place_of : List Place → (name : Text) → Option Place
place_of places name = find (λ (p : Place). bytes_eq p.label.name name && is_first p) places

-- the number of the first row that reads as a place
abbrev pub row_like : (rows : List (List Label)) → Place → Option ℕ
row_like rows p = position (λ row. is_same row (labels_of p)) rows

abbrev pub row_with : (rows : List (List Label)) → Option Place → Option ℕ
row_with rows None = None
row_with rows (Some p) = row_like rows p

abbrev pub row_at : Content → (rows : List (List Label)) → (t : ℕ) → (name : Text) → Option ℕ
row_at c rows t name = row_with rows (place_of (places_at c t) name)

abbrev pub shift_between : (t : ℕ) → (from to : Option ℕ) → Option Shift
shift_between t (Some i) (Some j) = Some (record { tick = t; from = i; to = j })
shift_between t _ _ = None

-- the move of a name in a tick, by the command at a place: both stays have a tick, the one that ends up to the tick
-- before, the other from this tick on
abbrev pub shift_by : Content → (rows : List (List Label)) → (place t : ℕ) → (name : Text) → Option Shift
shift_by c rows place t name =
    if has_lasted c.answered t (standing_of (standing c.answered place) name)
    && is_lasting place (standing_of (standing_at c t) name)
    then shift_between t (row_at c rows (t - 1) name) (row_at c rows t name) else None

abbrev pub shift_if : Content → (rows : List (List Label)) → (place t : ℕ) → (name : Option Text) → Option Shift
shift_if c rows place t None = None
shift_if c rows place t (Some name) = shift_by c rows place t name

-- that of the command at a place, if it is there
abbrev pub shift_at : Content → Scale → (rows : List (List Label)) → (place : ℕ) → Option Answered → Option Shift
shift_at c s rows place None = None
shift_at c s rows place (Some a) =
    if is_inside s a.tick then shift_if c rows place a.tick (moved_by a) else None

-- those of all commands, in their order
unfoldable pub shifts_among : Content → Scale → (rows : List (List Label)) → List Shift
shifts_among c s rows =
    filter_map (λ place. shift_at c s rows place (slice_get c.answered place)) (range_with_len 0 (length c.answered))
