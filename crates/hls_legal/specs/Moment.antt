-- A moment, in which a command is to be answered, and whom the words of a command name in it.
use Rattle.std.specs.Prelude.{◌≡◌, ℕ, ◌++◌, List, [], ◌∷◌, Option, Some, None, Bool, map, find, option_and_then}
use Rattle.hls_text.specs.Lines.{Text}
use Rattle.hls_chron.specs.declared.plain.Kind.{Kind}
use Rattle.hls_chron.specs.declared.plain.Kind.TheVariants as kinds
use Rattle.hls_chron.specs.Kinds.{kind_of}
use Rattle.hls_scenario.specs.declared.scenario.Spot.{Spot}
use Rattle.hls_scenario.specs.declared.scenario.Spot.TheVariants.{Cpu, Under}
use Rattle.hls_scenario.specs.declared.scenario.Perch.{Perch}
use Rattle.hls_scenario.specs.declared.scenario.Command.{Command}
use Rattle.hls_scenario.specs.declared.scenario.Command.TheVariants as said
use Rattle.hls_machine.specs.Hierarchy.{Hierarchy, Node, Scheduler, Thread, Loaded, Admitted, name_of}
use Rattle.hls_legal.specs.Schedule.{is_name}

-- the boxes of a kit, of each kind: how many are left, and how many were taken
pub record Boxes : Type 0 where
  pub left : Kind → ℕ
  pub used : Kind → ℕ

-- the hierarchy as it stands, the boxes, and how many conversions a derivation may have
pub record Moment : Type 0 where
  pub hierarchy : Hierarchy
  pub boxes : Boxes
  pub depth : ℕ

-- ---- who has a name

abbrev pub has_name : Hierarchy → (name : Text) → (k : ℕ) → Bool
has_name h name k = is_name name (name_of (h.nodes k))

-- the number of the loaded scheduler or admitted thread that has a name, and what it is: none where nobody
-- has the name
abbrev pub number_of : Hierarchy → (name : Text) → Option ℕ
number_of h name = find (has_name h name) (h.schedulers ++ h.threads)

abbrev pub node_of : Hierarchy → (name : Text) → Option Node
node_of h name = option_and_then h.nodes (number_of h name)

pub record NamesScheduler (h : Hierarchy) (name : Text) : Type 0 where
  pub scheduler : Scheduler
  pub there : node_of h name ≡ Some (Loaded scheduler)

pub record NamesThread (h : Hierarchy) (name : Text) : Type 0 where
  pub thread : Thread
  pub there : node_of h name ≡ Some (Admitted thread)

pub record NamesJoin (h : Hierarchy) (name : Text) : Type 0 where
  pub place : NamesScheduler h name
  pub kind : kind_of place.scheduler.config ≡ kinds.Join

-- ---- the words of a command

-- the new name that a command gives
abbrev pub new_name : Command → Option Text
new_name (said.Load name config perches) = Some name
new_name (said.Thread name perch) = Some name
new_name _ = None

-- the name after end, unload, move, wake or block
abbrev pub old_name : Command → Option Text
old_name (said.End name) = Some name
old_name (said.Unload name) = Some name
old_name (said.Move name perch) = Some name
old_name (said.Wake name every burst) = Some name
old_name (said.Block name) = Some name
old_name _ = None

-- the seats that a command asks for, in the order of their ports
abbrev pub perches_of : Command → List Perch
perches_of (said.Load name config perches) = perches
perches_of (said.Thread name perch) = perch ∷ []
perches_of (said.Move name perch) = perch ∷ []
perches_of _ = []

abbrev pub spots_of : Command → List Spot
spots_of command = map (λ (perch : Perch). perch.spot) (perches_of command)

-- the name of a place: none for the processor
abbrev pub spot_name : Spot → Option Text
spot_name Cpu = None
spot_name (Under sched terms) = Some sched
