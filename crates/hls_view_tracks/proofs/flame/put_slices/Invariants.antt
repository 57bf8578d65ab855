use Rattle.std.proofs.Common.{◌≡◌, [], ◌++◌, take, drop}
use Rattle.hls_view_tracks.proofs.FlameLaws.{below}
use Rattle.hls_view_tracks.proofs.flame.put_slices.Given as goal

abbrev pub invariant-loop-depth : goal.invariant-loop-depth
invariant-loop-depth l =
    l.events.items ++ below l.turn.place l.turn.names.now l.turn.before.now l.turn.run.now l.turn.more.now
    (take l.depth l.places) (drop l.depth l.places)
    ≡ l.fn.events.items
    ++ below l.turn.place l.turn.names.now l.turn.before.now l.turn.run.now l.turn.more.now [] l.places
