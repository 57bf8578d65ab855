use Rattle.std.proofs.Common.{length}
use Rattle.hls_view_tracks.proofs.paths.+begins.Given as goal

abbrev pub decreases-begins : goal.decreases-begins
decreases-begins l = length l.above.now
