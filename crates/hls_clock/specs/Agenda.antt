-- The commands of a scenario by their ticks.
use Rattle.std.specs.Prelude.{ℕ, ◌==◌, nat_lt, List, Option, Some, None, map, slice_get, if◌then◌else◌}
use Rattle.std.specs.List.{find}
use Rattle.hls_scenario.specs.declared.scenario.Command.{Command}
use Rattle.hls_scenario.specs.declared.scenario.Item.{Item}

abbrev pub due_of : ℕ → Option Item → Option Command
due_of now None = None
due_of now (Some item) = if item.tick == now then Some item.command else None

-- the command of the item at this place, if it has this tick
abbrev pub due_command : List Item → (place now : ℕ) → Option Command
due_command items place now = due_of now (slice_get items place)

-- the first tick above now
abbrev pub first_tick_after : (now : ℕ) → List Item → Option ℕ
first_tick_after now items = find (λ tick. nat_lt now tick) (map (λ item. item.tick) items)
