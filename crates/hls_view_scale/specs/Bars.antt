-- Bars, each above the longest row of neighbouring columns of one height.
use Rattle.std.specs.Prelude.{ℕ, suc, ◌+◌, ◌==◌, ◌&&◌, Bool, List, [], ◌∷◌, map, take, if◌then◌else◌}
use Rattle.hls_view_scale.specs.declared.scale.Scale.{Scale}
use Rattle.hls_view_scale.specs.declared.bars.Bar.{Bar}
use Rattle.hls_view_scale.specs.Heights.{heights}

abbrev pub touches : Bar → (column high : ℕ) → Bool
touches bar column high = bar.last + 1 == column && bar.high == high

abbrev pub one_wide : (column high : ℕ) → Bar
one_wide column high = record { first = column; last = column; high = high }

-- the last bar, and the next column of some height
abbrev pub go_on : Bar → (column high : ℕ) → List Bar
go_on bar column high = if touches bar column high
    then record { first = bar.first; last = column; high = high } ∷ []
    else bar ∷ one_wide column high ∷ []

abbrev pub with_high : List Bar → (column high : ℕ) → List Bar
with_high [] column high = one_wide column high ∷ []
with_high (bar ∷ []) column high = go_on bar column high
with_high (bar ∷ next ∷ bars) column high = bar ∷ with_high (next ∷ bars) column high

-- some bars, and the next column; above one of no height there is none
abbrev pub with_column : List Bar → (column high : ℕ) → List Bar
with_column bars column high = if high == 0 then bars else with_high bars column high

-- some bars, and the columns from one on
abbrev pub with_columns : List Bar → (column : ℕ) → List ℕ → List Bar
with_columns bars column [] = bars
with_columns bars column (high ∷ heights) = with_columns (with_column bars column high) (suc column) heights

abbrev pub bars_above : List ℕ → List Bar
bars_above heights = with_columns [] 0 heights

-- as high as their part of each column
abbrev pub bars_of : Scale → (full : ℕ) → List ℕ → List Bar
bars_of s full counts = bars_above (heights s full (take s.columns counts))

-- of one height above each column in which something is
abbrev pub if_any : (high count : ℕ) → ℕ
if_any high count = if count == 0 then 0 else high

abbrev pub grounds_of : Scale → (high : ℕ) → List ℕ → List Bar
grounds_of s high counts = bars_above (map (if_any high) (take s.columns counts))
