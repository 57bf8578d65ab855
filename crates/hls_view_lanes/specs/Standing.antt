-- What holds of the rows of a span of ticks.
use Rattle.std.specs.Prelude.{◌≡◌, ℕ, ◌+◌, ◌<◌, List, [], ◌∷◌, Some, false, ◌⊎◌, slice_get}
use Rattle.hls_report_text.specs.Content.{Content}
use Rattle.hls_view_tale.specs.declared.label.Label.{Label}
use Rattle.hls_view_lanes.specs.Rows.{ways_at, has_row}

-- no two read alike
abbrev pub AreApart : List (List Label) → Type 0
AreApart [] = Unit {0}
AreApart (row ∷ rows) = (has_row rows row ≡ false) × AreApart rows

-- a way down in one of these ticks
pub record IsWayIn (c : Content) (from ticks : ℕ) (row : List Label) : Type 0 where
  pub t : ℕ
  pub early : t < ticks
  pub number : ℕ
  pub there : slice_get (ways_at c (from + t)) number ≡ Some row

-- or the processor's own
abbrev pub IsSomeWay : Content → (from ticks : ℕ) → (row : List Label) → Type 0
IsSomeWay c from ticks row = (row ≡ []) ⊎ IsWayIn c from ticks row
