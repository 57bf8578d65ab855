-- Cells that a table's text tells apart.
use Rattle.std.specs.Prelude.{◌≡◌, ◌==◌, ◌&&◌, ◌≤◌, Bool, true, false, not, List, [], ◌∷◌, length}
use Rattle.std.specs.Prelude.{if◌then◌else◌}
use Rattle.std.specs.List.{AllByRecursion}
use Rattle.hls_text.specs.Lines.{Text}
use Rattle.hls_view_table.specs.declared.table.Side.{Side}

-- a cell goes on so, behind a visible byte of it or not: no blank stands behind a blank, and it ends behind a visible
-- byte
abbrev pub goes_on : (behind : Bool) → Text → Bool
goes_on behind [] = behind
goes_on behind (b ∷ bs) =
    if b == 32 then behind && goes_on false bs else (not (b == 10) && goes_on true bs)

-- some bytes without a line end, of which the first and the last are visible and no two neighbours are blanks
abbrev pub IsCell : Text → Type 0
IsCell text = goes_on false text ≡ true

-- such cells, for each of which there is a column
pub record IsLine (sides : List Side) (cells : List Text) : Type 0 where
  pub few : length cells ≤ length sides
  pub are : AllByRecursion IsCell cells
