-- What can be read off from a picture in which each column is a tick: whom the tick went to, and by which way.
use Rattle.std.specs.Prelude.{ℕ, zero, suc, ◌-◌, List, [], ◌∷◌, ◌++◌, Option, Some, None, Bool, ◌&&◌, nat_lt}
use Rattle.std.specs.Prelude.{find, get_or, option_and_then, slice_get}
use Rattle.hls_text.specs.Lines.{Text}
use Rattle.hls_view_drawing.specs.Rows.{RowData}

-- a thread's row, or that for idle ticks, has a strong bar in a column
abbrev pub is_strong : (column : ℕ) → RowData → Bool
is_strong column row = row.is_leaf && nat_lt 0 (get_or row.served column 0)

-- the name of a row behind those of the rows above it
abbrev pub named_below : (above : Option ℕ → List Text) → Option RowData → List Text
named_below above None = []
named_below above (Some row) = above row.above ++ row.name ∷ []

-- the names down to the row of a number, from so many rows above it on
unfoldable pub names_to : List RowData → (steps : ℕ) → (number : Option ℕ) → List Text
names_to rows zero number = []
names_to rows (suc steps) number =
    named_below (names_to rows steps) (option_and_then (λ n. slice_get rows n) number)

-- the names below the processor down to a row, which stands so many steps below it; the row for idle ticks is below
-- none
abbrev pub path_by : List RowData → (depth : ℕ) → (name : Text) → (above : Option ℕ) → Option (List Text)
path_by rows depth name None = None
path_by rows depth name (Some number) = Some (names_to rows (depth - 1) (Some number) ++ name ∷ [])

abbrev pub path_to : List RowData → RowData → Option (List Text)
path_to rows row = path_by rows row.depth row.name row.above

-- the path that is told by the strong bar of a column
abbrev pub path_shown : List RowData → (column : ℕ) → Option (List Text)
path_shown rows column = option_and_then (path_to rows) (find (is_strong column) rows)
