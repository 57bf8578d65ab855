use Rattle.std.proofs.Common.{◌≡◌, map}
use Rattle.std.specs.List.{range_with_len}
use Rattle.hls_view_lanes.specs.Inside.Present.{facts_at}
use Rattle.hls_view_lanes.proofs.tick_facts.all_facts.Given as goal

abbrev pub invariant-loop-row : goal.invariant-loop-row
invariant-loop-row l = l.facts.items ≡ map (facts_at l.present l.asking l.through) (range_with_len 0 l.row)
