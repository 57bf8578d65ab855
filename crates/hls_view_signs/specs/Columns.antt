-- The columns of a picture that have a tick of which something is so.
use Rattle.std.specs.Prelude.{ℕ, ◌+◌, ◌*◌, List, Bool, filter}
use Rattle.std.specs.List.{list_any, range_with_len}
use Rattle.hls_view_scale.specs.declared.scale.Scale.{Scale}
use Rattle.hls_view_scale.specs.Columns.{ticks_in}

-- the ticks of a column, from 0
abbrev pub ticks_of : Scale → (column : ℕ) → List ℕ
ticks_of s column = range_with_len (s.from + column * s.ticks) (ticks_in s column)

-- of all columns, from the left, those that have a tick that passes
unfoldable pub columns_with : Scale → (test : ℕ → Bool) → List ℕ
columns_with s test = filter (λ column. list_any test (ticks_of s column)) (range_with_len 0 s.columns)
