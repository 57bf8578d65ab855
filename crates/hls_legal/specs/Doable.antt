-- Which commands can be done, in the words of the machine.
use Rattle.std.specs.Prelude.{◌≡◌, ◌≢◌, Some, slice_get, ℕ}
use Rattle.hls_chron.specs.Kinds.{kind_of}
use Rattle.hls_derive.specs.declared.derivation.Derivation.{Derivation}
use Rattle.hls_scenario.specs.declared.scenario.Command.{Command}
use Rattle.hls_scenario.specs.declared.scenario.Command.TheVariants.{Load}
use Rattle.hls_machine.specs.Hierarchy.{Hierarchy}
use Rattle.hls_machine.specs.Steps.{Step}
use Rattle.hls_machine.specs.Legal.{Can}
use Rattle.hls_legal.specs.Tells.{Does}
use Rattle.hls_legal.specs.Moment.{Boxes, Moment}
use Rattle.hls_legal.specs.Dues.{Due, dues, Derives}

-- a step that does the command may be taken
pub record MayDo (h : Hierarchy) (command : Command) : Type 0 where
  pub step : Step
  pub does : Does h command step
  pub can : Can h step

-- the kit has a box for what is loaded
abbrev pub HasBox : Boxes → Command → Type 0
HasBox boxes (Load name config perches) = boxes.left (kind_of config) ≢ 0
HasBox boxes _ = Unit {0}

-- each seat has a derivation
abbrev pub AreDerivable : Moment → Command → Type 0
AreDerivable m command = (at : ℕ) (due : Due) → slice_get (dues m.hierarchy command) at ≡ Some due
    → (d : Derivation) × Derives m.depth due d
