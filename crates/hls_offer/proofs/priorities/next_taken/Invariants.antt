use Rattle.std.proofs.Common.{ℕ, ◌<◌, ◌≤◌}
use Rattle.hls_chron.specs.Seats.{HasPriority}
use Rattle.hls_machine.specs.Hierarchy.{Hierarchy, book_of}
use Rattle.hls_tree.specs.Trees.{IsTreeOf}
use Rattle.hls_offer.proofs.priorities.next_taken.Given as goal

abbrev pub invariant-loop-priority : goal.invariant-loop-priority
invariant-loop-priority g l =
    (h : Hierarchy) (p : ℕ) → IsTreeOf (λ z. (goal.Scheduler-dyn g z).seen z.1) l.tree h → l.from ≤ p → p < l.priority
    → ¬ HasPriority (book_of (h.nodes l.id)) p
