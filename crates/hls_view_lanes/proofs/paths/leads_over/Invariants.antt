use Rattle.std.proofs.Common.{◌≡◌, drop}
use Rattle.hls_view_lanes.specs.Facts.{spells}
use Rattle.hls_view_lanes.proofs.paths.leads_over.Given as goal

abbrev pub invariant-loop-at : goal.invariant-loop-at
invariant-loop-at l = spells (drop l.at l.names) (drop l.at l.way) ≡ spells l.names l.way
