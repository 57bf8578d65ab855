use Rattle.std.proofs.Common.{◌≡◌, ℕ, Bool, filter, take}
use Rattle.hls_machine.specs.Hierarchy.{Hierarchy}
use Rattle.hls_tree.specs.Trees.{IsTreeOf}
use Rattle.hls_core_stays.specs.Turnovers.{TellsBelow}
use Rattle.hls_core_stays.proofs.turnover.threads_below.Given as goal

abbrev pub invariant-loop-at : goal.invariant-loop-at
invariant-loop-at g l = (h : Hierarchy) (below : ℕ → Bool)
    → IsTreeOf (λ z. (goal.Scheduler-dyn g z).seen z.1) l.tree h → TellsBelow h l.fn.id below
    → l.threads.items ≡ filter below (take l.at h.threads)
