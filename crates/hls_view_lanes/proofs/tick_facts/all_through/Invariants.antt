use Rattle.std.proofs.Common.{◌≡◌, take, map}
use Rattle.std.specs.Prelude.{option_copied}
use Rattle.hls_view_lanes.specs.Facts.{is_through}
use Rattle.hls_view_lanes.proofs.tick_facts.all_through.Given as goal

abbrev pub invariant-loop-row : goal.invariant-loop-row
invariant-loop-row l =
    l.all.items ≡ map (λ row. is_through row (option_copied l.given)) (take l.row-index l.rows)
