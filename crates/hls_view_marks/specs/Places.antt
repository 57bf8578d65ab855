-- Where columns, ticks and rows stand on a page.
use Rattle.std.specs.Prelude.{ℕ, ◌+◌, ◌*◌}
use Rattle.hls_view_scale.specs.Columns.{offset, column_offset}
use Rattle.hls_view_marks.specs.declared.page.Page.{Page}

-- the left end of a column
abbrev pub column_x : Page → (column : ℕ) → ℕ
column_x page column = page.left + column_offset page.scale column

-- where a tick begins
abbrev pub tick_x : Page → (tick : ℕ) → ℕ
tick_x page tick = page.left + offset page.scale tick

-- rows are 20 high
abbrev pub row_top : (row : ℕ) → ℕ
row_top row = 128 + 20 * row
