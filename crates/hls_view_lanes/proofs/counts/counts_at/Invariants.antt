use Rattle.std.proofs.Common.{◌≡◌, List, take, map}
use Rattle.hls_view_lanes.specs.declared.tallies.Tally.{Tally}
use Rattle.hls_view_lanes.specs.Inside.Tallies.{tally_at}
use Rattle.hls_view_lanes.proofs.counts.counts_at.Given as goal

abbrev pub invariant-loop-column : goal.invariant-loop-column
invariant-loop-column l = record {
  here : l.here.items ≡ map (λ (ts : List Tally). (tally_at ts l.place).here) (take l.column-index l.columns);
  ready : l.ready.items ≡ map (λ (ts : List Tally). (tally_at ts l.place).ready) (take l.column-index l.columns);
  served : l.served.items ≡ map (λ (ts : List Tally). (tally_at ts l.place).served) (take l.column-index l.columns);
}
