use Rattle.std.proofs.Common.{◌≡◌, [], ◌++◌, length, map}
use Rattle.std.specs.List.{AllByRecursion}
use Rattle.hls_report_text.specs.Content.{stretch_of}
use Rattle.hls_report_text.specs.WellFormed.{HasShort}
use Rattle.hls_view_tracks.specs.Flame.{flame}
use Rattle.hls_view_tracks.specs.Inside.Paths.{named}
use Rattle.hls_view_tracks.proofs.flame.flame_of.Given as goal

abbrev pub invariant-loop-run : goal.invariant-loop-run
invariant-loop-run l =
    (l.events.items ++ flame l.place (named l.names l.before) (map (stretch_of l.names) l.rest)
    ≡ flame l.place [] (map (stretch_of l.names) l.runs))
    × AllByRecursion (λ run. HasShort run.path) l.rest

abbrev pub decreases-loop-run : goal.decreases-loop-run
decreases-loop-run l = length l.rest
