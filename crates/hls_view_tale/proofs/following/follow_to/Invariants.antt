use Rattle.std.proofs.Common.{◌≡◌, false}
use Rattle.hls_view_tale.specs.Inside.Came.{IsAlike}
use Rattle.hls_view_tale.specs.Inside.Told.{IsTold}
use Rattle.hls_view_tale.proofs.Comings.{AreEarly}
use Rattle.hls_view_tale.proofs.following.follow_to.Given as goal

abbrev pub invariant-loop-place : goal.invariant-loop-place
invariant-loop-place l = record {
  told : IsTold l.tale l.answered l.place;
  early : AreEarly l.answered l.tick l.place;
  same : l.changed ≡ false → IsAlike l.answered l.first l.place;
}
