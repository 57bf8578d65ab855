-- Who was seated where last, and on which schedulers somebody ever was.
use Rattle.std.specs.Prelude.{◌≡◌, ℕ, List, Option, Some, None, true, is_some, slice_get, take}
use Rattle.hls_text.specs.Lines.{Text}
use Rattle.hls_scenario.specs.declared.scenario.Spot.{Spot}
use Rattle.hls_scenario.specs.declared.scenario.Spot.TheVariants.{Cpu, Under}
use Rattle.hls_scenario.specs.declared.scenario.Perch.{Perch}
use Rattle.hls_scenario.specs.declared.scenario.Command.{Command}
use Rattle.hls_scenario.specs.declared.scenario.Command.TheVariants.{Load, Thread, Move}
use Rattle.hls_report_text.specs.declared.report.Answered.{Answered}
use Rattle.hls_legal.specs.Commands.{last_seating}
use Rattle.hls_audit_stays.specs.declared.places.Places.{Places}
use Rattle.hls_audit_stays.specs.declared.seats.Seats.{Seats}
use Rattle.hls_audit_stays.specs.Found.{command_at}
use Rattle.hls_audit_stays.specs.Places.{place_in}

-- the command that seated a name last
abbrev pub seated : Places → List Answered → (name : Text) → Option Answered
seated last all name = command_at all (place_in last name)

-- ---- schedulers that are known

abbrev pub IsKnown : Places → Spot → Type 0
IsKnown places Cpu = Unit {0}
IsKnown places (Under sched terms) = is_some (place_in places sched) ≡ true

abbrev pub AreKnown : Places → List Perch → Type 0
AreKnown places perches = (at : ℕ) (perch : Perch) → slice_get perches at ≡ Some perch → IsKnown places perch.spot

-- those on which a command seats
abbrev pub SeatsOnKnown : Places → Command → Type 0
SeatsOnKnown places (Load name config perches) = AreKnown places perches
SeatsOnKnown places (Thread name perch) = IsKnown places perch.spot
SeatsOnKnown places (Move name perch) = IsKnown places perch.spot
SeatsOnKnown places _ = Unit {0}

abbrev pub SitsOnKnown : Places → Option Answered → Type 0
SitsOnKnown places None = Unit {0}
SitsOnKnown places (Some a) = SeatsOnKnown places a.command

-- a scheduler that has a place stands there
abbrev pub AreNamed : Seats → Type 0
AreNamed s = (name : Text) (place : ℕ) → place_in s.places name ≡ Some place
    → slice_get s.scheds.items place ≡ Some name

-- so many of all commands came
pub record AreSeats (s : Seats) (all : List Answered) (came : ℕ) : Type 0 where
  pub last : (name : Text) → seated s.last all name ≡ last_seating name (take came all)
  pub named : AreNamed s
  pub known : (name : Text) → SitsOnKnown s.places (last_seating name (take came all))

-- ---- what is learned

pub record Learns (old new : Seats) : Type 0 where
  pub last : new.last ≡ old.last
  pub named : AreNamed old → AreNamed new
  pub grows : (name : Text) → is_some (place_in old.places name) ≡ true → is_some (place_in new.places name) ≡ true

pub record LearnsSched (old new : Seats) (sched : Text) : Type 0 where
  pub learns : Learns old new
  pub known : is_some (place_in new.places sched) ≡ true

pub record LearnsSpot (old new : Seats) (spot : Spot) : Type 0 where
  pub learns : Learns old new
  pub known : IsKnown new.places spot

pub record LearnsSpots (old new : Seats) (perches : List Perch) : Type 0 where
  pub learns : Learns old new
  pub known : AreKnown new.places perches

pub record LearnsSeats (old new : Seats) (command : Command) : Type 0 where
  pub learns : Learns old new
  pub known : SeatsOnKnown new.places command
