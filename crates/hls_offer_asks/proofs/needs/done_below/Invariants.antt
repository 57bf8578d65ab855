use Rattle.std.proofs.Common.{◌≤◌, ◌<◌, ℕ}
use Rattle.hls_chron.specs.declared.plain.Terms.TheVariants.{Prio}
use Rattle.hls_legal.specs.Moment.{Moment}
use Rattle.hls_core.specs.Asking.{IsMomentOf}
use Rattle.hls_offer_asks.specs.Needs.{IsDoneOn}
use Rattle.hls_offer_asks.proofs.needs.done_below.Given as goal

abbrev pub invariant-loop-priority : goal.invariant-loop-priority
invariant-loop-priority g l =
    (l.priority ≤ l.end) × ((m : Moment) → IsMomentOf (λ z. (goal.Scheduler-dyn g z).seen z.1) l.core m → (p : ℕ)
    → l.priority ≤ p → p < l.end → ¬ IsDoneOn m l.need l.on (Prio p))

abbrev pub decreases-loop-priority : goal.decreases-loop-priority
decreases-loop-priority g l = l.priority
