use Rattle.std.proofs.Common.{◌≡◌, take}
use Rattle.hls_machine.specs.Hierarchy.{Hierarchy, haves_of}
use Rattle.hls_tree.specs.Trees.{IsTreeOf}
use Rattle.hls_manager.proofs.derivations.haves_of.Given as goal

abbrev pub invariant-loop-port : goal.invariant-loop-port
invariant-loop-port g l = (h : Hierarchy) → IsTreeOf (λ z. (goal.Scheduler-dyn g z).seen z.1) l.tree h
    → l.haves.items ≡ take l.port (haves_of (h.nodes l.id))
