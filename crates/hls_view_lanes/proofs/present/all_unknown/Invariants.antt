use Rattle.std.proofs.Common.{◌≡◌, List, take, map}
use Rattle.hls_view_tale.specs.declared.label.Label.{Label}
use Rattle.hls_view_lanes.specs.Inside.Present.{unknown}
use Rattle.hls_view_lanes.proofs.present.all_unknown.Given as goal

abbrev pub invariant-loop-way : goal.invariant-loop-way
invariant-loop-way l = l.all.items ≡ map (λ (way : List Label). unknown) (take l._way-index l.ways)
