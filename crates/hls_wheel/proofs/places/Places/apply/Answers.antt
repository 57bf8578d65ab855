use Rattle.hls_wheel.proofs.places.Places.apply.Goals as goal

pub lowered-self-inside-requires : goal.lowered-self-inside-requires
lowered-self-inside-requires c = record {
  size = c.apply.ensures.size;
  free = c.bound.ensures.bound c.self.inside.owners.items _ c.self.invariant
      (rw c.deref_mut-owners.ensures.value at c.apply.ensures.applied);
}
