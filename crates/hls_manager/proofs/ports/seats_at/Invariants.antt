use Rattle.std.specs.Prelude.{IfSome}
use Rattle.hls_report_text.specs.WellFormed.{IsRefusal}
use Rattle.hls_machine.specs.Hierarchy.{Hierarchy}
use Rattle.hls_machine.specs.Lists.{IsListed}
use Rattle.hls_tree.specs.Trees.{IsTreeOf}
use Rattle.hls_manager.proofs.PortLaws.{AreNamed}
use Rattle.hls_manager.proofs.ports.seats_at.Given as goal

abbrev pub invariant-loop-perch : goal.invariant-loop-perch
invariant-loop-perch g l = record {
  named : (h : Hierarchy) → IsTreeOf (λ z. (goal.Scheduler-dyn g z).seen z.1) l.tree h → IsListed h
      → AreNamed h l.perches l.perch-index l.least l.seats.items;
  formed : IfSome l.least (λ refusal. IsRefusal refusal);
}
