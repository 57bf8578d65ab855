use Rattle.std.proofs.Common.{ℕ, arith}
use Rattle.hls_chron.specs.Seats.{HasPriority}
use Rattle.hls_machine.specs.Hierarchy.{book_of}
use Rattle.hls_offer.proofs.Taken.{below_more}
use Rattle.hls_offer.proofs.priorities.next_taken.Goals as goal

pub loop-priority-preserved : goal.loop-priority-preserved
loop-priority-preserved g c = λ h p tree low high.
    below_more (λ (q : ℕ). ¬ HasPriority (book_of (h.nodes c.args.id)) q) c.args.from c.loop-priority.priority
    (λ q below above. c.loop-priority.invariant h q tree below above)
    (c.is_taken.ensures.free c.if-is_taken.false h tree) p low high

pub returns-clause-before : goal.returns-clause-before
returns-clause-before g c = λ h p tree low high.
    (let past = c.loop-priority-test.false in
    c.loop-priority.invariant h p tree low (omega (arith, high, past)))
