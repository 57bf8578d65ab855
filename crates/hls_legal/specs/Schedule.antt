-- The ticks that the stretches of a report spell.
use Rattle.std.specs.Prelude.{ℕ, ◌+◌, ◌-◌, List, Option, Some, None, Bool, false, ◌&&◌, nat_le, length}
use Rattle.std.specs.Prelude.{find, flat_map, replicate, slice_get, option_and_then}
use Rattle.std.specs.Str.{bytes_eq}
use Rattle.hls_text.specs.Lines.{Text}
use Rattle.hls_report_text.specs.declared.stretch.Stretch.{Stretch}

-- each tick in its order: its path, or none where it is idle
abbrev pub tick_list : List Stretch → List (Option (List Text))
tick_list stretches = flat_map (λ (s : Stretch). replicate (s.to + 1 - s.from) s.path) stretches

abbrev pub has_tick : ℕ → Stretch → Bool
has_tick t s = nat_le s.from t && nat_le t s.to

-- the path of a tick: that of the stretch that has it
unfoldable pub path_at : List Stretch → ℕ → Option (List Text)
path_at stretches t = option_and_then (λ (s : Stretch). s.path) (find (has_tick t) stretches)

-- a path ends in its thread
abbrev pub last_name : List Text → Option Text
last_name names = slice_get names (length names - 1)

abbrev pub is_name : (name : Text) → Option Text → Bool
is_name name None = false
is_name name (Some other) = bytes_eq other name

-- the thread of this name is served in a tick
unfoldable pub is_served : List Stretch → (name : Text) → ℕ → Bool
is_served stretches name t = is_name name (option_and_then last_name (path_at stretches t))
