-- The defined answer to a command in a moment: the refusal of least number that applies, or else done.
use Rattle.std.specs.Prelude.{◌≡◌, ℕ, ◌≤◌, ◌⊎◌, List, Some, None}
use Rattle.hls_text.specs.Lines.{Text}
use Rattle.hls_kinds.specs.declared.fault.SeatFault.TheVariants as faults
use Rattle.hls_scenario.specs.declared.scenario.Spot.{Spot}
use Rattle.hls_scenario.specs.declared.scenario.Command.{Command}
use Rattle.hls_report_text.specs.declared.refusal.Refusal.{Refusal}
use Rattle.hls_report_text.specs.declared.refusal.Refusal.TheVariants.{NameTaken, NoSuchName, WrongSort}
use Rattle.hls_report_text.specs.declared.refusal.Refusal.TheVariants.{TooManyNodes, TooManyThreads, NotEmpty}
use Rattle.hls_report_text.specs.declared.refusal.Refusal.TheVariants.{TermsUnfit, PriorityTaken, SeatsFull}
use Rattle.hls_report_text.specs.declared.refusal.Refusal.TheVariants.{Cycle, TooDeep, TooManyShares, KitEmpty}
use Rattle.hls_report_text.specs.declared.refusal.Refusal.TheVariants.{NoRoom, NoDerivation}
use Rattle.hls_report_text.specs.declared.report.Seated.{Seated}
use Rattle.hls_report_text.specs.declared.report.Answer.{Answer}
use Rattle.hls_report_text.specs.declared.report.Answer.TheVariants.{Done, Refused}
use Rattle.hls_machine.specs.Hierarchy.{Hierarchy}
use Rattle.hls_legal.specs.Moment.{Moment, spots_of}
use Rattle.hls_legal.specs.Dues.{dues, AreSettled}
use Rattle.hls_legal.specs.Refusals.{IsNameTaken, IsNameUnknown, IsNameOfWrongSort, AreTooManyNodes}
use Rattle.hls_legal.specs.Refusals.{AreTooManyThreads, IsNotEmpty, IsCycle, IsTooDeep, AreTooManyShares}
use Rattle.hls_legal.specs.Refusals.{IsKitEmpty, IsUnderived, IsPlaceUnknown, IsPlaceOfWrongSort, HasFault}
use Rattle.hls_legal.specs.Refusals.{IsRootTaken, IsFirstSuch}

-- the numbers of refusals
abbrev pub number : Refusal → ℕ
number (NameTaken name) = 10
number (NoSuchName name) = 11
number (WrongSort name) = 12
number (TooManyNodes most) = 13
number (TooManyThreads most) = 14
number (NotEmpty name seats) = 15
number (TermsUnfit name) = 16
number (PriorityTaken priority) = 17
number (SeatsFull name seats) = 18
number (Cycle name) = 19
number (TooDeep level) = 20
number (TooManyShares shares) = 21
number (KitEmpty kind used) = 22
number (NoRoom free asked) = 23
number (NoDerivation name depth) = 24

-- what refuses the command as a whole, its own name included
abbrev pub RefusesCommand : Moment → Command → Refusal → Type 0
RefusesCommand m command (NameTaken name) = IsNameTaken m.hierarchy command name
RefusesCommand m command (NoSuchName name) = IsNameUnknown m.hierarchy command name
RefusesCommand m command (WrongSort (Some name)) = IsNameOfWrongSort m.hierarchy command name
RefusesCommand m command (TooManyNodes most) = AreTooManyNodes m.hierarchy command most
RefusesCommand m command (TooManyThreads most) = AreTooManyThreads m.hierarchy command most
RefusesCommand m command (NotEmpty name seats) = IsNotEmpty m.hierarchy command name seats
RefusesCommand m command (Cycle name) = IsCycle m.hierarchy command name
RefusesCommand m command (TooDeep level) = IsTooDeep m.hierarchy command level
RefusesCommand m command (TooManyShares shares) = AreTooManyShares m.hierarchy command shares
RefusesCommand m command (KitEmpty kind used) = IsKitEmpty m.boxes command kind used
RefusesCommand m command (NoDerivation name depth) =
    IsUnderived m.hierarchy m.depth command name × (depth ≡ m.depth)
RefusesCommand m command _ = ⊥

-- what refuses it at one of its places
abbrev pub RefusesPlace : Hierarchy → Command → Spot → Refusal → Type 0
RefusesPlace h command spot (NoSuchName name) = IsPlaceUnknown h spot name
RefusesPlace h command spot (WrongSort name) = IsPlaceOfWrongSort h command spot name
RefusesPlace h command spot (TermsUnfit name) = HasFault h spot name faults.Unfit
RefusesPlace h command spot (PriorityTaken priority) =
    (name : Text) × HasFault h spot name (faults.PriorityTaken priority)
RefusesPlace h command spot (SeatsFull None seats) = IsRootTaken h spot seats
RefusesPlace h command spot (SeatsFull (Some name) seats) = HasFault h spot name (faults.Full seats)
RefusesPlace h command spot (NoRoom free asked) = (name : Text) × HasFault h spot name (faults.NoRoom free asked)
RefusesPlace h command spot _ = ⊥

-- a refusal of this number
pub record RefusesBy (h : Hierarchy) (command : Command) (n : ℕ) (spot : Spot) (r : Refusal) : Type 0 where
  pub refuses : RefusesPlace h command spot r
  pub number_is : number r ≡ n

-- at the first of its places that has a refusal of the number, where none of the number is of the whole command
pub record RefusesFirstPlace (m : Moment) (command : Command) (r : Refusal) : Type 0 where
  pub first : IsFirstSuch (spots_of command) (RefusesBy m.hierarchy command (number r)) r
  pub only : (other : Refusal) → number other ≡ number r → ¬ RefusesCommand m command other

-- the refusal applies to the command
abbrev pub Applies : Moment → Command → Refusal → Type 0
Applies m command r = RefusesCommand m command r ⊎ RefusesFirstPlace m command r

-- it applies, and none of a lesser number does
pub record IsRefused (m : Moment) (command : Command) (r : Refusal) : Type 0 where
  pub applies : Applies m command r
  pub least : (other : Refusal) → Applies m command other → number r ≤ number other

-- none applies, and each seat that is taken or derived anew is told with a derivation, in their order
pub record IsDone (m : Moment) (command : Command) (seats : List Seated) : Type 0 where
  pub none : (r : Refusal) → ¬ Applies m command r
  pub settled : AreSettled m.depth (dues m.hierarchy command) seats

abbrev pub IsAnswer : Moment → Command → Answer → Type 0
IsAnswer m command (Refused r) = IsRefused m command r
IsAnswer m command (Done seats) = IsDone m command seats
