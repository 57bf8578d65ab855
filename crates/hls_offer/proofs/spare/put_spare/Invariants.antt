use Rattle.hls_offer.specs.Inside.Lines.{AddsSome}
use Rattle.hls_offer.proofs.spare.put_spare.Given as goal

abbrev pub invariant-loop-at : goal.invariant-loop-at
invariant-loop-at g l =
    AddsSome (λ z. (goal.Scheduler-dyn g z).seen z.1) l.version l.tree l.periods l.at l.fn.out.items l.out.items
