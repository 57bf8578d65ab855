-- Bars and marks in rows.
use Rattle.std.specs.Prelude.{ℕ, ◌+◌, ◌-◌, ◌*◌, List, [], ◌∷◌, codes, decimal, flat_map}
use Rattle.hls_text.specs.Lines.{Text}
use Rattle.hls_view_scale.specs.declared.bars.Bar.{Bar}
use Rattle.hls_view_scale.specs.Bars.{bars_of, grounds_of}
use Rattle.hls_view_pieces.specs.Pieces.{as_one}
use Rattle.hls_view_marks.specs.declared.page.Page.{Page}
use Rattle.hls_view_marks.specs.Elements.{path_text}
use Rattle.hls_view_marks.specs.Places.{column_x}

-- a rectangle that stands on a line
unfoldable pub bar_text : Page → (base : ℕ) → Bar → Text
bar_text page base bar = as_one (codes "M" ∷ decimal (column_x page bar.first) ∷ codes " " ∷ decimal base
    ∷ codes "v-" ∷ decimal bar.high ∷ codes "h" ∷ decimal ((bar.last + 1 - bar.first) * page.scale.wide)
    ∷ codes "v" ∷ decimal bar.high ∷ codes "z" ∷ [])

-- bars as high as their parts of the columns
unfoldable pub bars_text : Page → (class : Text) → List ℕ → (full base : ℕ) → Text
bars_text page class counts full base =
    path_text class (flat_map (bar_text page base) (bars_of page.scale full counts))

-- bars of one height above the columns that have a count
unfoldable pub grounds_text : Page → (class : Text) → List ℕ → (high base : ℕ) → Text
grounds_text page class counts high base =
    path_text class (flat_map (bar_text page base) (grounds_of page.scale high counts))

-- a mark in a column, which begins so far back of it and so far down
unfoldable pub shape_text : Page → (back down : ℕ) → (shape : Text) → (column : ℕ) → Text
shape_text page back down shape column =
    as_one (codes "M" ∷ decimal (column_x page column - back) ∷ codes " " ∷ decimal down ∷ shape ∷ [])

unfoldable pub marks_text : Page → (class : Text) → (columns : List ℕ) → (back down : ℕ) → (shape : Text) → Text
marks_text page class columns back down shape =
    path_text class (flat_map (shape_text page back down shape) columns)
