-- A load, from the lookup of its names to its derivations.
use Rattle.std.specs.Prelude.{◌≡◌, ◌≢◌, ℕ, ◌<◌, List, Some, None, length, slice_get}
use Rattle.hls_text.specs.Lines.{Text}
use Rattle.hls_chron.specs.declared.plain.Config.{Config}
use Rattle.hls_chron.specs.Kinds.{kind_of}
use Rattle.hls_derive.specs.declared.derivation.Derivation.{Derivation}
use Rattle.hls_scenario.specs.declared.scenario.Perch.{Perch}
use Rattle.hls_report_text.specs.declared.report.Seated.{Seated}
use Rattle.hls_machine.specs.Hierarchy.{Hierarchy}
use Rattle.hls_legal.specs.Moment.{Moment, node_of}
use Rattle.hls_legal.specs.Dues.{Derives, IsUnderivable}
use Rattle.hls_tree.specs.declared.seat.Seat.{Seat}
use Rattle.hls_manager.specs.Seats.{due_for}
use Rattle.hls_manager.specs.Inside.Least.{IsLeastRefusal}
use Rattle.hls_manager.specs.Inside.Ports.{AreWanted, IsPortRefused}
use Rattle.hls_manager.specs.Inside.Heights.{IsLowEnough}

-- its name is free, and its places are the processor and schedulers, at which these seats are wanted
pub record IsPlaced (h : Hierarchy) (name : Text) (perches : List Perch) (seats : List Seat) : Type 0 where
  pub name_free : node_of h name ≡ None
  pub wanted : AreWanted h perches (length perches) seats

-- nothing refuses it but want of derivations
pub record IsOpen (m : Moment) (config : Config) (perches : List Perch) : Type 0 where
  pub few : length m.hierarchy.schedulers < 64
  pub ports : IsLeastRefusal (IsPortRefused m.hierarchy perches) (length perches) None
  pub low : IsLowEnough m.hierarchy config perches
  pub has_box : m.boxes.left (kind_of config) ≢ 0

-- a seat is told with a derivation, by the name of its child and its port
pub record IsTold (h : Hierarchy) (depth : ℕ) (name : Text) (port : ℕ) (seat : Seat) (told : Seated) : Type 0 where
  pub named : told.name ≡ name
  pub numbered : told.port ≡ port
  pub derives : Derives depth (due_for h name port seat) told.derivation

-- so are the first so many seats
pub record AreTold (h : Hierarchy) (depth : ℕ) (name : Text) (seats : List Seat) (ports : ℕ) (told : List Seated)
    : Type 0 where
  pub counted : length told ≡ ports
  pub each : (port : ℕ) (seat : Seat) (one : Seated) → slice_get seats port ≡ Some seat
      → slice_get told port ≡ Some one → IsTold h depth name port seat one

-- the first seat that has no derivation
pub record IsUntold (h : Hierarchy) (depth : ℕ) (name : Text) (seats : List Seat) : Type 0 where
  pub port : ℕ
  pub seat : Seat
  pub at_port : slice_get seats port ≡ Some seat
  pub lacks : IsUnderivable depth (due_for h name port seat)
  pub first : (before : ℕ) (other : Seat) → before < port → slice_get seats before ≡ Some other
      → (d : Derivation) × Derives depth (due_for h name before other) d
