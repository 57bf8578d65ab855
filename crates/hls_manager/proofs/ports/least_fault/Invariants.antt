use Rattle.std.proofs.Common.{List, length}
use Rattle.std.specs.Prelude.{IfSome}
use Rattle.hls_scenario.specs.declared.scenario.Perch.{Perch}
use Rattle.hls_report_text.specs.WellFormed.{IsRefusal}
use Rattle.hls_machine.specs.Hierarchy.{Hierarchy}
use Rattle.hls_machine.specs.Lists.{IsListed}
use Rattle.hls_tree.specs.Trees.{IsTreeOf}
use Rattle.hls_manager.specs.Inside.Least.{IsLeastRefusal}
use Rattle.hls_manager.specs.Inside.Ports.{AreWanted, ArePerchesInRange, IsPortRefused}
use Rattle.hls_manager.proofs.ports.least_fault.Given as goal

abbrev pub invariant-loop-seat : goal.invariant-loop-seat
invariant-loop-seat g l = record {
  answer : (h : Hierarchy) (perches : List Perch) → IsTreeOf (λ z. (goal.Scheduler-dyn g z).seen z.1) l.tree h
      → IsListed h → AreWanted h perches (length perches) l.seats
      → IsLeastRefusal (IsPortRefused h perches) l.seat-index l.least;
  formed : (h : Hierarchy) (perches : List Perch) → IsTreeOf (λ z. (goal.Scheduler-dyn g z).seen z.1) l.tree h
      → AreWanted h perches (length perches) l.seats → ArePerchesInRange perches
      → IfSome l.least (λ refusal. IsRefusal refusal);
}
