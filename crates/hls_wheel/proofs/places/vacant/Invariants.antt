use Rattle.std.proofs.Common.{◌≡◌, ◌≤◌, None}
use Rattle.std.specs.Prelude.{replicate, vec_capacity}
use Rattle.hls_wheel.proofs.places.vacant.Given as goal

abbrev pub invariant-loop-place : goal.invariant-loop-place
invariant-loop-place l = record {
  vacant : l.owners.items ≡ replicate l._place None;
  room : 1000 ≤ vec_capacity l.owners;
}
