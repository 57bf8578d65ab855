use Rattle.std.proofs.Common.{length}
use Rattle.hls_view_timeline.proofs.ways.+comes_before.Given as goal

abbrev pub decreases-comes_before : goal.decreases-comes_before
decreases-comes_before l = length l.one.now
