use Rattle.std.proofs.Common.{take}
use Rattle.hls_view_tights.specs.Surpluses.{IsLeastOf}
use Rattle.hls_view_tights.specs.Inside.Sightings.{seen_in}
use Rattle.hls_view_tights.proofs.least.tightest.Given as goal

abbrev pub invariant-loop-sighting : goal.invariant-loop-sighting
invariant-loop-sighting l = IsLeastOf (seen_in l.row (take l.sighting-index l.sightings)) l.least
