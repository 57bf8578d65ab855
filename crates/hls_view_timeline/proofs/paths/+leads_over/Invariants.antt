use Rattle.std.proofs.Common.{length}
use Rattle.hls_view_timeline.proofs.paths.+leads_over.Given as goal

abbrev pub decreases-leads_over : goal.decreases-leads_over
decreases-leads_over l = length l.places.now
