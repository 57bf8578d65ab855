use Rattle.std.proofs.Common.{◌≡◌, take, map}
use Rattle.hls_view_tracks.specs.Commands.{instant_of}
use Rattle.hls_view_tracks.proofs.commands.instants_of.Given as goal

abbrev pub invariant-loop-a : goal.invariant-loop-a
invariant-loop-a l = l.events.items ≡ map (instant_of l.version l.place) (take l.a-index l.answered)
