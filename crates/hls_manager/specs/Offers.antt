-- A thread that only the want of a derivation can still refuse.
use Rattle.std.specs.Prelude.{◌≡◌, ◌<◌, ℕ, None, Some, length}
use Rattle.hls_text.specs.Lines.{Text}
use Rattle.hls_kinds.specs.Faults.{IsFirstFaultIfAny}
use Rattle.hls_scenario.specs.declared.scenario.Perch.{Perch}
use Rattle.hls_scenario.specs.declared.scenario.Spot.TheVariants.{Under}
use Rattle.hls_machine.specs.Hierarchy.{Hierarchy, Scheduler, Loaded}
use Rattle.hls_legal.specs.Tells.{HasName}
use Rattle.hls_legal.specs.Moment.{node_of}
use Rattle.hls_tree.specs.declared.seat.Seat.{Seat}

-- its name is free, there are few threads, and the seat fits on the scheduler that it names
pub record IsOffered (h : Hierarchy) (name : Text) (perch : Perch) (seat : Seat) : Type 0 where
  pub name_free : node_of h name ≡ None
  pub few : length h.threads < 256
  pub sched : Text
  pub place : perch.spot ≡ Under sched seat.terms
  pub kept : seat.kept ≡ perch.want
  pub parent : ℕ
  pub parent_is : seat.parent ≡ Some parent
  pub has : HasName h parent sched
  pub scheduler : Scheduler
  pub there : h.nodes parent ≡ Some (Loaded scheduler)
  pub fits : IsFirstFaultIfAny scheduler.config scheduler.book seat.terms None
