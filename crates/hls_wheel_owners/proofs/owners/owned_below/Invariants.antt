use Rattle.std.proofs.Common.{◌≡◌, ◌≤◌, is_some}
use Rattle.hls_chron.specs.Ticks.{count}
use Rattle.hls_kinds.specs.Frames.{owner_in}
use Rattle.hls_wheel_owners.proofs.owners.owned_below.Given as goal

abbrev pub invariant-loop-place : goal.invariant-loop-place
invariant-loop-place l = record {
  counted : l.counted ≡ count (λ p. is_some (owner_in l.owners p)) 0 l.place;
  few : l.counted ≤ l.place;
}
