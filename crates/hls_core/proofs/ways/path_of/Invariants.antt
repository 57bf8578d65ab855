use Rattle.hls_machine.specs.Hierarchy.{Hierarchy}
use Rattle.hls_tree.specs.Trees.{IsTreeOf}
use Rattle.hls_core.proofs.Paths.{SoFar}
use Rattle.hls_core.proofs.ways.path_of.Given as goal

abbrev pub invariant-loop-i : goal.invariant-loop-i
invariant-loop-i g l = (h : Hierarchy) → IsTreeOf (λ z. (goal.Scheduler-dyn g z).seen z.1) l.tree h
    → SoFar h l.journal l.ids l.i l.path
