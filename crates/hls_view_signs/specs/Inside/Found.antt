-- Columns in the order in which they are found.
use Rattle.std.specs.Prelude.{ℕ, ◌-◌, ◌/◌, ◌==◌, List, Bool}
use Rattle.std.specs.List.{list_any}
use Rattle.hls_view_scale.specs.declared.scale.Scale.{Scale}

abbrev pub column_of : Scale → (tick : ℕ) → ℕ
column_of s tick = (tick - s.from) / s.ticks

abbrev pub is_found : List ℕ → (column : ℕ) → Bool
is_found found column = list_any (λ k. k == column) found
