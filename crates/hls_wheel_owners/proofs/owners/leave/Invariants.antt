use Rattle.std.proofs.Common.{◌≡◌, ℕ, ◌<◌, ◌≤◌, length}
use Rattle.hls_chron.specs.declared.book.Event.TheVariants.{Leave}
use Rattle.hls_kinds.specs.Frames.{owner_in, owner_after}
use Rattle.hls_wheel_owners.proofs.owners.leave.Given as goal

abbrev pub invariant-loop-place : goal.invariant-loop-place
invariant-loop-place l = record {
  size : length l.owners ≡ 1000;
  past : (p : ℕ) → p < l.place → owner_in l.owners p ≡ owner_after (owner_in l.initial.owners) (Leave l.slot) p;
  rest : (p : ℕ) → l.place ≤ p → owner_in l.owners p ≡ owner_in l.initial.owners p;
}
