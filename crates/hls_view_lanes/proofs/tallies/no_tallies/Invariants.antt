use Rattle.std.proofs.Common.{◌≡◌, List, take, map}
use Rattle.hls_view_tale.specs.declared.label.Label.{Label}
use Rattle.hls_view_lanes.specs.Inside.Tallies.{no_tally}
use Rattle.hls_view_lanes.proofs.tallies.no_tallies.Given as goal

abbrev pub invariant-loop-row : goal.invariant-loop-row
invariant-loop-row l = l.tallies.items ≡ map (λ (row : List Label). no_tally) (take l._row-index l.rows)
