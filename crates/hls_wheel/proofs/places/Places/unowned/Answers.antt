use Rattle.hls_wheel.proofs.Stretches.{unowned_place}
use Rattle.hls_wheel.proofs.places.Places.unowned.Goals as goal

pub invariant_of-result : goal.invariant_of-result
invariant_of-result c = rw c.in_ok-owners.ensures (λ place le lt. unowned_place place)
