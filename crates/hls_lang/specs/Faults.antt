-- The line that a fault tells.
use Rattle.std.specs.Prelude.{ℕ}
use Rattle.hls_lang.specs.declared.fault.ScenarioFault.{ScenarioFault}
use Rattle.hls_lang.specs.declared.fault.ScenarioFault.TheVariants as faults

-- the line of a fault
abbrev pub AtLine : ScenarioFault → (ℕ → Type 0) → Type 0
AtLine (faults.At line cause) P = P line
AtLine (faults.Memory error) P = Unit {0}
