use Rattle.std.specs.Prelude.{option_copied}
use Rattle.hls_legal.specs.Moment.{Moment}
use Rattle.hls_core.specs.Asking.{IsMomentOf}
use Rattle.hls_offer.specs.Inside.Told.{AddsPlaces}
use Rattle.hls_offer.proofs.needing.put_places.Given as goal

abbrev pub invariant-loop-at : goal.invariant-loop-at
invariant-loop-at g l =
    (m : Moment) → IsMomentOf (λ z. (goal.Scheduler-dyn g z).seen z.1) l.core m
    → AddsPlaces m l.core.journal.ticks l.sought.need (option_copied l.sought.periods) l.at l.offers l.fn.out.items
    l.out.items
