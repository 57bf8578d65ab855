-- Tables as text.
use Rattle.std.specs.Prelude.{ℕ, suc, ◌==◌, ◌-◌, List, [], ◌∷◌, ◌++◌, length, get_or, map, fold, max, zip}
use Rattle.std.specs.Prelude.{flat_map, replicate, if◌then◌else◌}
use Rattle.hls_text.specs.Lines.{Text}
use Rattle.hls_view_table.specs.declared.table.Side.{Side}
use Rattle.hls_view_table.specs.declared.table.Side.TheVariants.{Left, Right}
use Rattle.hls_view_table.specs.declared.table.Column.{Column}
use Rattle.hls_view_table.specs.declared.table.Row.{Row}
use Rattle.hls_view_table.specs.declared.table.Table.{Table}
use Rattle.hls_view_table.specs.declared.lanes.Lane.{Lane}

-- ---- lanes

-- the cell of a line in a lane, which may be wanting
abbrev pub cell_at : ℕ → List Text → Text
cell_at at cells = get_or cells at []

-- as wide as the widest cell there
abbrev pub width_at : ℕ → List (List Text) → ℕ
width_at at lines = fold (λ wide cells. max wide (length (cell_at at cells))) 0 lines

-- the lanes from one on
abbrev pub lanes_from : ℕ → List Side → List (List Text) → List Lane
lanes_from at [] lines = []
lanes_from at (side ∷ sides) lines =
    record { side = side; wide = width_at at lines } ∷ lanes_from (suc at) sides lines

abbrev pub lanes_of : List Side → List (List Text) → List Lane
lanes_of sides lines = lanes_from 0 sides lines

-- ---- lines

-- a cell, and the blanks that fill its lane
abbrev pub fill : Side → Text → (blanks : Text) → Text
fill Left cell blanks = cell ++ blanks
fill Right cell blanks = blanks ++ cell

abbrev pub set_in : Lane → Text → Text
set_in lane cell = fill lane.side cell (replicate (lane.wide - length cell) 32)

-- the cells in their lanes, two blanks behind each
abbrev pub spread : List Lane → List Text → Text
spread lanes cells = flat_map (λ p. set_in p.0 p.1 ++ (32 ∷ 32 ∷ [])) (zip lanes cells)

-- a byte before a text, unless both are blank
abbrev pub before_text : ℕ → Text → Text
before_text b [] = if b == 32 then [] else b ∷ []
before_text b (c ∷ cs) = b ∷ c ∷ cs

-- a text without the blanks at its end
abbrev pub trimmed : Text → Text
trimmed [] = []
trimmed (b ∷ bs) = before_text b (trimmed bs)

abbrev pub line_text : List Lane → List Text → Text
line_text lanes cells = trimmed (spread lanes cells)

abbrev pub lines_text : List Lane → List (List Text) → Text
lines_text lanes lines = flat_map (λ cells. line_text lanes cells ++ 10 ∷ []) lines

-- ---- tables

-- lines of cells, one below the other, in columns whose cells stand at these sides
abbrev pub aligned : List Side → List (List Text) → Text
aligned sides lines = lines_text (lanes_of sides lines) lines

abbrev pub side_of : Column → Side
side_of column = column.side

abbrev pub head_of : Column → Text
head_of column = column.head.now

abbrev pub cells_of : Row → List Text
cells_of row = map (λ cell. cell.items) row.cells.items

-- the heads, and the cells of each row below them
abbrev pub lines_in : Table → List (List Text)
lines_in t = map head_of t.columns.now ∷ map cells_of t.rows.items

abbrev pub table_text : Table → Text
table_text t = aligned (map side_of t.columns.now) (lines_in t)
