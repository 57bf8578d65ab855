-- Where ticks stand.
use Rattle.std.specs.Prelude.{ℕ, ◌+◌, ◌-◌, ◌*◌, ◌/◌, min}
use Rattle.hls_view_scale.specs.declared.scale.Scale.{Scale}
use Rattle.hls_view_scale.specs.Measures.{ticks_shown}

-- how far right of the first tick
abbrev pub offset : Scale → ℕ → ℕ
offset s tick = (tick - s.from) * s.wide / s.ticks

-- how far right of the first column
abbrev pub column_offset : Scale → ℕ → ℕ
column_offset s column = column * s.wide

-- how many ticks a column has; the last may have fewer
abbrev pub ticks_in : Scale → ℕ → ℕ
ticks_in s column = min (ticks_shown s.from s.to - column * s.ticks) s.ticks

-- the first tick of a column
abbrev pub column_from : Scale → ℕ → ℕ
column_from s column = s.from + column * s.ticks
