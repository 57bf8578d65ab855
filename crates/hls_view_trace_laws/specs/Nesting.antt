-- Slices one within another.
use Rattle.std.specs.Prelude.{ℕ, ◌≤◌, ◌<◌, ◌⊎◌}
use Rattle.hls_view_trace.specs.declared.event.Event.{Event}
use Rattle.hls_view_trace.specs.declared.event.Event.TheVariants.{Slice}

-- a slice that begins no earlier than these ticks, and lies within them or behind them
abbrev pub LiesBy : (from to : ℕ) → Event → Type 0
LiesBy from to (Slice s) = (from ≤ s.from) × ((to < s.from) ⊎ (s.to ≤ to))
LiesBy from to _ = ⊥

-- two slices, of which the later one lies within the earlier or behind it
abbrev pub IsNested : (earlier later : Event) → Type 0
IsNested (Slice s) later = LiesBy s.from s.to later
IsNested _ later = ⊥
