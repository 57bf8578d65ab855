use Rattle.std.proofs.Common.{◌-◌, ◌<◌, ◌≤◌}
use Rattle.hls_chron.specs.Seats.{HasPriority}
use Rattle.hls_machine.specs.Hierarchy.{Hierarchy, book_of}
use Rattle.hls_tree.specs.Trees.{IsTreeOf}
use Rattle.hls_offer.specs.Left.{AreFreeSpans}
use Rattle.hls_offer.proofs.Spans.{AreApart}
use Rattle.hls_offer.proofs.priorities.free_spans.Given as goal

abbrev pub invariant-loop-first : goal.invariant-loop-first
invariant-loop-first g l = record {
  small : l.first ≤ 32;
  free : l.first < 32 → (h : Hierarchy) → IsTreeOf (λ z. (goal.Scheduler-dyn g z).seen z.1) l.tree h
      → ¬ HasPriority (book_of (h.nodes l.id)) l.first;
  told : (h : Hierarchy) → IsTreeOf (λ z. (goal.Scheduler-dyn g z).seen z.1) l.tree h
      → AreFreeSpans (book_of (h.nodes l.id)) 0 l.first l.spans.items;
  apart : AreApart l.spans.items l.first;
}

abbrev pub decreases-loop-first : goal.decreases-loop-first
decreases-loop-first g l = 32 - l.first
