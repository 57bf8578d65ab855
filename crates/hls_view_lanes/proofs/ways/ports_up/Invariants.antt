use Rattle.std.proofs.Common.{◌≡◌, take, map}
use Rattle.hls_view_tale.specs.declared.label.Label.{Label}
use Rattle.hls_view_lanes.proofs.ways.ports_up.Given as goal

abbrev pub invariant-loop-label : goal.invariant-loop-label
invariant-loop-label l = l.ports.items ≡ map (λ (label : Label). label.port) (take l.label-index l.way)
