use Rattle.hls_view_signs.specs.Inside.Scenes.{AreHeard}
use Rattle.hls_view_signs.proofs.roused.roused_in.Given as goal

abbrev pub invariant-loop-place : goal.invariant-loop-place
invariant-loop-place l = AreHeard l.notes l.tick l.place l.names.items
