-- Who sits below whom, by the names in the commands so far.
use Rattle.std.specs.Prelude.{ℕ, zero, suc, List, Option, Some, None, Bool, false, ◌||◌, length}
use Rattle.std.specs.List.{list_any}
use Rattle.std.specs.Str.{bytes_eq}
use Rattle.hls_text.specs.Lines.{Text}
use Rattle.hls_scenario.specs.declared.scenario.Spot.{Spot}
use Rattle.hls_scenario.specs.declared.scenario.Spot.TheVariants.{Cpu, Under}
use Rattle.hls_scenario.specs.declared.scenario.Perch.{Perch}
use Rattle.hls_scenario.specs.declared.scenario.Command.{Command}
use Rattle.hls_scenario.specs.declared.scenario.Command.TheVariants.{Load, Thread, Move}
use Rattle.hls_report_text.specs.declared.report.Answered.{Answered}
use Rattle.hls_legal.specs.Commands.{last_seating}

-- a seat is on a scheduler that passes a test
abbrev pub is_on : (Text → Bool) → Spot → Bool
is_on test Cpu = false
is_on test (Under sched terms) = test sched

-- one of the seats that a command gives is
abbrev pub seats_on : (Text → Bool) → Command → Bool
seats_on test (Load name config perches) = list_any (λ (perch : Perch). is_on test perch.spot) perches
seats_on test (Thread name perch) = is_on test perch.spot
seats_on test (Move name perch) = is_on test perch.spot
seats_on test _ = false

abbrev pub sits_on : (Text → Bool) → Option Answered → Bool
sits_on test None = false
sits_on test (Some a) = seats_on test a.command

-- a name is the one above or, in at most so many steps, below it: its last seats are on such a scheduler
unfoldable pub is_within : (before : List Answered) → (steps : ℕ) → (above name : Text) → Bool
is_within before zero above name = bytes_eq name above
is_within before (suc steps) above name =
    bytes_eq name above || sits_on (is_within before steps above) (last_seating name before)

-- there are no more steps than commands
abbrev pub is_under : (before : List Answered) → (above name : Text) → Bool
is_under before above name = is_within before (length before) above name
