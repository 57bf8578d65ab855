-- The rows: their ground, what is printed at their left, bars, marks and the bracket.
use Rattle.std.specs.Prelude.{ℕ, ◌+◌, ◌-◌, ◌*◌, max, nat_le, Bool, true, false, List, [], ◌∷◌, ◌++◌, Option, Some, None}
use Rattle.std.specs.Prelude.{codes, decimal, length, if◌then◌else◌}
use Rattle.hls_text.specs.Lines.{Text}
use Rattle.hls_view_scale.specs.Columns.{column_offset}
use Rattle.hls_view_pieces.specs.Pieces.{as_one}
use Rattle.hls_view_marks.specs.declared.page.Page.{Page}
use Rattle.hls_view_marks.specs.Elements.{area_text, path_of, text_text, unless_empty}
use Rattle.hls_view_marks.specs.Marks.{bars_text, grounds_text, marks_text}
use Rattle.hls_view_marks.specs.Numbered.{numbered}
use Rattle.hls_view_marks.specs.Places.{row_top, tick_x}
use Rattle.hls_view_picture_rows.specs.declared.picture.PictureRow.{PictureRow}
use Rattle.hls_view_picture_rows.specs.declared.picture.Stretch.{Stretch}
use Rattle.hls_view_picture_rows.specs.Rows.{class_name, faint_name, ready_text, served_text}

-- ---- grounds

-- a scheduler's row is shaded from the left edge to the last column
unfoldable pub shade_text : Page → (is_leaf : Bool) → (top : ℕ) → Text
shade_text page true top = []
shade_text page false top =
    path_of (codes "s") (area_text 0 top (page.left + column_offset page.scale page.scale.columns) 20)

-- and lighter where somebody is there
unfoldable pub ground_text : Page → (place : ℕ) → PictureRow → Text
ground_text page place row = as_one (shade_text page row.is_leaf (row_top place)
    ∷ grounds_text page (codes "x") row.here.items 18 (row_top place + 19) ∷ [])

unfoldable pub grounds : Page → List PictureRow → Text
grounds page rows = numbered (ground_text page) 0 rows

-- ---- words and numbers, at a row with this top

unfoldable pub name_class : (is_leaf : Bool) → Text
name_class true = []
name_class false = codes "b"

abbrev pub name_x : PictureRow → ℕ
name_x row = 10 + 14 * row.depth

unfoldable pub names_text : Page → (top : ℕ) → PictureRow → Text
names_text page top row = as_one (text_text (name_class row.is_leaf) (name_x row) (top + 14) row.name.items
    ∷ text_text (codes "m") (name_x row + 7 * (length row.name.items + 1)) (top + 14) row.config.items
    ∷ text_text (codes "m") page.seat (top + 14) row.terms.items ∷ [])

-- a guarantee stands behind a stroke of its colour
abbrev pub stroke_text : Page → (top : ℕ) → PictureRow → Text
stroke_text page top row = unless_empty row.guarantee.items
    (path_of (class_name row.class) (area_text (page.guarantee - 6) (top + 4) 3 12))

unfoldable pub promise_text : Page → (top : ℕ) → PictureRow → Text
promise_text page top row =
    as_one (stroke_text page top row ∷ text_text [] page.guarantee (top + 14) row.guarantee.items ∷ [])

unfoldable pub numbers_text : Page → (top : ℕ) → PictureRow → Text
numbers_text page top row = as_one (text_text (codes "e") page.served (top + 14) (served_text row)
    ∷ text_text (codes "e") page.ready (top + 14) (ready_text row)
    ∷ text_text (codes "b e") page.spare (top + 14) row.spare.items ∷ [])

-- ---- bars: faint where somebody is ready, strong where it is served

-- how high a full bar is, and how far below the top it stands
abbrev pub full_of : (is_leaf : Bool) → ℕ
full_of true = 14
full_of false = 8

abbrev pub foot_of : (is_leaf : Bool) → ℕ
foot_of true = 17
foot_of false = 14

unfoldable pub row_bars : Page → (top : ℕ) → PictureRow → Text
row_bars page top row = as_one (
    bars_text page (faint_name row.class) row.ready.items (full_of row.is_leaf) (top + foot_of row.is_leaf)
    ∷ bars_text page (class_name row.class) row.served.items (full_of row.is_leaf) (top + foot_of row.is_leaf) ∷ [])

-- ---- marks: stays that begin, wakes, jobs that were dropped

-- there is room for shapes that tell more
abbrev pub is_roomy : Page → Bool
is_roomy page = nat_le 5 page.scale.wide

unfoldable pub wakes_text : Page → (top : ℕ) → (columns : List ℕ) → Text
wakes_text page top columns = if is_roomy page then marks_text page (codes "k") columns 0 (top + 4) (codes "l-3-4h6z")
    else marks_text page (codes "k q") columns 0 (top + 4) (codes "v-3h1v3z")

unfoldable pub drops_text : Page → (top : ℕ) → (columns : List ℕ) → Text
drops_text page top columns = if is_roomy page
    then marks_text page (codes "o") columns 3 (top + 7) (codes "l6 6m0-6l-6 6")
    else marks_text page (codes "k") columns 0 (top + 15) (codes "v-8h1v8z")

unfoldable pub row_marks : Page → (top : ℕ) → PictureRow → Text
row_marks page top row = as_one (marks_text page (codes "l") row.begins.items 0 top (codes "v20")
    ∷ wakes_text page top row.wakes.items ∷ drops_text page top row.drops.items ∷ [])

-- ---- the bracket

unfoldable pub bracket_of : Page → (top : ℕ) → Stretch → Text
bracket_of page top ticks = as_one (codes "<path class=\"t\" d=\"M" ∷ decimal (tick_x page ticks.first) ∷ codes " "
    ∷ decimal (top + 17) ∷ codes "v2h" ∷ decimal (max (tick_x page (ticks.last + 1) - tick_x page ticks.first) 1)
    ∷ codes "v-2\"/>\n" ∷ [])

abbrev pub bracket_text : Page → (top : ℕ) → Option Stretch → Text
bracket_text page top None = []
bracket_text page top (Some ticks) = bracket_of page top ticks

-- ---- a row

unfoldable pub words_text : Page → (top : ℕ) → PictureRow → Text
words_text page top row =
    as_one (names_text page top row ∷ promise_text page top row ∷ numbers_text page top row ∷ [])

unfoldable pub signs_text : Page → (top : ℕ) → PictureRow → Text
signs_text page top row =
    as_one (row_bars page top row ∷ row_marks page top row ∷ bracket_text page top row.bracket ∷ [])

abbrev pub row_text : Page → (place : ℕ) → PictureRow → Text
row_text page place row = words_text page (row_top place) row ++ signs_text page (row_top place) row

unfoldable pub rows_text : Page → List PictureRow → Text
rows_text page rows = numbered (row_text page) 0 rows
