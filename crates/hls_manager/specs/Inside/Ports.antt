-- The seats that a load wants, one for each of its ports, and what refuses the places of its ports.
use Rattle.std.specs.Prelude.{◌≡◌, ℕ, ◌≤◌, List, [], ◌∷◌, ◌++◌, length, Option, Some, None, slice_get}
use Rattle.hls_chron.specs.Ranges.{TermsInRange}
use Rattle.hls_chron.specs.declared.plain.Config.TheVariants as configs
use Rattle.hls_guarantee.specs.Limits.{IsNarrow}
use Rattle.hls_scenario.specs.declared.scenario.Spot.{Spot}
use Rattle.hls_scenario.specs.declared.scenario.Spot.TheVariants.{Cpu, Under}
use Rattle.hls_scenario.specs.declared.scenario.Perch.{Perch}
use Rattle.hls_scenario.specs.declared.scenario.Command.TheVariants as said
use Rattle.hls_scenario.specs.Grammar as grammar
use Rattle.hls_report_text.specs.declared.refusal.Refusal.{Refusal}
use Rattle.hls_machine.specs.Hierarchy.{Hierarchy}
use Rattle.hls_legal.specs.Tells.{HasName, terms_in}
use Rattle.hls_legal.specs.Answers.{RefusesPlace, number}
use Rattle.hls_tree.specs.Reads.{IsLoaded, IsParent}
use Rattle.hls_tree.specs.declared.seat.Seat.{Seat}
use Rattle.hls_manager.specs.Finds.{IsNoScheduler}

-- a seat is on the scheduler that a place names, or at the processor
abbrev pub IsAt : Hierarchy → Spot → (parent : Option ℕ) → Type 0
IsAt h Cpu None = Unit {0}
IsAt h (Under sched terms) (Some p) = HasName h p sched × IsLoaded (h.nodes p)
IsAt h _ _ = ⊥

-- a seat is what a perch asks for
pub record IsWanted (h : Hierarchy) (perch : Perch) (seat : Seat) : Type 0 where
  pub place : IsAt h perch.spot seat.parent
  pub set : seat.terms ≡ terms_in perch.spot
  pub for_it : seat.kept ≡ perch.want

-- so many seats are what the first perches ask for
pub record AreWanted (h : Hierarchy) (perches : List Perch) (ports : ℕ) (seats : List Seat) : Type 0 where
  pub counted : length seats ≡ ports
  pub each : (port : ℕ) (perch : Perch) (seat : Seat) → slice_get perches port ≡ Some perch
      → slice_get seats port ≡ Some seat → IsWanted h perch seat

-- the seat of a perch was put behind these
pub record IsPut (h : Hierarchy) (perch : Perch) (old new : List Seat) : Type 0 where
  pub seat : Seat
  pub behind : new ≡ old ++ seat ∷ []
  pub wanted : IsWanted h perch seat

-- seats on the processor and on schedulers
abbrev pub AreAtParents : Hierarchy → List Seat → Type 0
AreAtParents h seats = (port : ℕ) (seat : Seat) → slice_get seats port ≡ Some seat → IsParent h seat.parent

-- the numbers of the perches are in range
abbrev pub ArePerchesInRange : List Perch → Type 0
ArePerchesInRange perches =
    (port : ℕ) (perch : Perch) → slice_get perches port ≡ Some perch → grammar.IsPerch perch

-- so are those of the seats
pub record IsInRange (seat : Seat) : Type 0 where
  pub terms : TermsInRange seat.terms
  pub kept : IsNarrow seat.kept

abbrev pub AreInRange : List Seat → Type 0
AreInRange seats = (port : ℕ) (seat : Seat) → slice_get seats port ≡ Some seat → IsInRange seat

-- ---- what refuses a place

-- the name of a place is none of a scheduler
abbrev pub RefusesName : Hierarchy → Spot → Refusal → Type 0
RefusesName h Cpu r = ⊥
RefusesName h (Under sched terms) r = IsNoScheduler h sched r

-- what refuses a load there, whatever else is in it
abbrev pub RefusesSpot : Hierarchy → Spot → Refusal → Type 0
RefusesSpot h spot r = RefusesPlace h (said.Load [] configs.Cpu []) spot r

pub record IsNameRefused (h : Hierarchy) (perches : List Perch) (port : ℕ) (r : Refusal) : Type 0 where
  pub perch : Perch
  pub at_port : slice_get perches port ≡ Some perch
  pub refuses : RefusesName h perch.spot r

pub record IsPortRefused (h : Hierarchy) (perches : List Perch) (port : ℕ) (r : Refusal) : Type 0 where
  pub perch : Perch
  pub at_port : slice_get perches port ≡ Some perch
  pub refuses : RefusesSpot h perch.spot r

-- the least refusal at a place, if there is one
pub record IsLeastThere (h : Hierarchy) (spot : Spot) (r : Refusal) : Type 0 where
  pub refuses : RefusesSpot h spot r
  pub least : (other : Refusal) → RefusesSpot h spot other → number r ≤ number other

abbrev pub IsSpotAnswer : Hierarchy → Spot → Option Refusal → Type 0
IsSpotAnswer h spot None = (r : Refusal) → ¬ RefusesSpot h spot r
IsSpotAnswer h spot (Some r) = IsLeastThere h spot r
