use Rattle.std.proofs.Common.{◌≡◌, drop, map}
use Rattle.hls_report_text.specs.Content.{stretch_of}
use Rattle.hls_view_tracks.specs.Flame.{last_tick}
use Rattle.hls_view_tracks.specs.Inside.Paths.{named}
use Rattle.hls_view_tracks.proofs.flame.last_tick.Given as goal

abbrev pub invariant-loop-run : goal.invariant-loop-run
invariant-loop-run l =
    last_tick (named l.names l.above) l.fn.to (map (stretch_of l.names) l.more)
    ≡ last_tick (named l.names l.above) l.last (map (stretch_of l.names) (drop l.run-index l.more))
