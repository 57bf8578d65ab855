use Rattle.hls_view_tale.specs.Inside.Told.{IsTold}
use Rattle.hls_view_tale.proofs.before.tale_before.Given as goal

abbrev pub invariant-loop-place : goal.invariant-loop-place
invariant-loop-place l = IsTold l.tale l.answered l.place
