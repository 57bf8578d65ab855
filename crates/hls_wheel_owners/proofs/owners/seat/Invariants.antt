use Rattle.std.proofs.Common.{◌≡◌, ℕ, ◌<◌, ◌≤◌, length}
use Rattle.hls_chron.specs.declared.plain.Terms.TheVariants.{Slots}
use Rattle.hls_kinds.specs.Frames.{owner_in, owner_seated, free_below}
use Rattle.hls_wheel_owners.proofs.owners.seat.Given as goal

abbrev pub invariant-loop-place : goal.invariant-loop-place
invariant-loop-place l = record {
  size : length l.owners ≡ 1000;
  free : l.free ≡ free_below (owner_in l.initial.owners) l.place;
  few : l.free ≤ l.place;
  asked : l.free ≤ l.places;
  past : (p : ℕ) → p < l.place → owner_in l.owners p ≡ owner_seated (owner_in l.initial.owners) l.slot
      (Slots l.places) p;
  rest : (p : ℕ) → l.place ≤ p → owner_in l.owners p ≡ owner_in l.initial.owners p;
}
