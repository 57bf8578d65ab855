use Rattle.hls_machine.specs.Hierarchy.{Hierarchy}
use Rattle.hls_tree.specs.Trees.{IsTreeOf}
use Rattle.hls_machine.specs.Legal.{IsReached}
use Rattle.hls_manager.specs.Inside.Loads.{AreTold}
use Rattle.hls_manager.proofs.loading.derive_all.Given as goal

abbrev pub invariant-loop-port : goal.invariant-loop-port
invariant-loop-port g l = (h : Hierarchy) → IsTreeOf (λ z. (goal.Scheduler-dyn g z).seen z.1) l.tree h → IsReached h
    → AreTold h l.depth l.name l.seats l.port l.told.items
