-- What tests of a command rule out.
use Rattle.std.specs.Prelude.{◌≡◌, ◌<◌, ℕ, Some, slice_get}
use Rattle.hls_scenario.specs.declared.scenario.Spot.{Spot}
use Rattle.hls_scenario.specs.declared.scenario.Command.{Command}
use Rattle.hls_report_text.specs.declared.refusal.Refusal.{Refusal}
use Rattle.hls_machine.specs.Hierarchy.{Hierarchy}
use Rattle.hls_legal.specs.Moment.{spots_of}
use Rattle.hls_legal.specs.Answers.{RefusesPlace}

-- no place of the command has the refusal, and none before a port
abbrev pub PassesPlaces : Hierarchy → Command → Refusal → Type 0
PassesPlaces h command r = (port : ℕ) (spot : Spot) → slice_get (spots_of command) port ≡ Some spot
    → ¬ RefusesPlace h command spot r

abbrev pub PassesPlacesBefore : Hierarchy → Command → (end : ℕ) → Refusal → Type 0
PassesPlacesBefore h command end r = (port : ℕ) (spot : Spot) → port < end
    → slice_get (spots_of command) port ≡ Some spot → ¬ RefusesPlace h command spot r
