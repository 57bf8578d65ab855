use Rattle.std.proofs.Common.{◌≤◌, length}
use Rattle.hls_machine.specs.Hierarchy.{Hierarchy}
use Rattle.hls_tree.specs.Trees.{IsTreeOf}
use Rattle.hls_machine.specs.Legal.{IsReached}
use Rattle.hls_manager.specs.Inside.Heights.{IsMost}
use Rattle.hls_manager.proofs.heights.level_over.Given as goal

abbrev pub invariant-loop-seat : goal.invariant-loop-seat
invariant-loop-seat g l = record {
  most : (h : Hierarchy) → IsTreeOf (λ z. (goal.Scheduler-dyn g z).seen z.1) l.tree h → IsReached h
      → IsMost h length l.seats l.seat-index l.most;
  within : l.most ≤ 8;
}
