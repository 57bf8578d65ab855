-- How high bars are.
use Rattle.std.specs.Prelude.{ℕ, suc, ◌*◌, ◌/◌, ◌==◌, max, List, [], ◌∷◌, if◌then◌else◌}
use Rattle.hls_view_scale.specs.declared.scale.Scale.{Scale}
use Rattle.hls_view_scale.specs.Columns.{ticks_in}

-- a part of the full height, but at least 1 where there is something
abbrev pub height : (some all full : ℕ) → ℕ
height some all full = if some == 0 then 0 else max (some * full / all) 1

-- from a column on
abbrev pub heights_from : Scale → (full column : ℕ) → List ℕ → List ℕ
heights_from s full column [] = []
heights_from s full column (some ∷ counts) =
    height some (ticks_in s column) full ∷ heights_from s full (suc column) counts

-- above each column, where a fact holds at so many of its ticks
abbrev pub heights : Scale → (full : ℕ) → List ℕ → List ℕ
heights s full counts = heights_from s full 0 counts
