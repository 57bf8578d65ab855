use Rattle.std.proofs.Common.{◌≡◌, Some, length}
use Rattle.hls_machine.specs.Hierarchy.{Hierarchy}
use Rattle.hls_legal.specs.Dues.{dues_on}
use Rattle.hls_tree.specs.Trees.{IsTreeOf}
use Rattle.hls_manager.proofs.Rederivals.{AreSettledFirst}
use Rattle.hls_manager.proofs.rederiving.rederive.Given as goal

abbrev pub invariant-loop-child : goal.invariant-loop-child
invariant-loop-child g l = record {
  count : length l.seats.items ≡ l.child-index;
  first : (h : Hierarchy) → IsTreeOf (λ z. (goal.Scheduler-dyn g z).seen z.1) l.tree h
      → AreSettledFirst l.depth (dues_on h l.have (Some l.id)) l.seats.items;
}
