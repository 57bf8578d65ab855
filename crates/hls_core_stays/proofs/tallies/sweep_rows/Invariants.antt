use Rattle.hls_core_stays.specs.Tallies.{lasts}
use Rattle.hls_core_stays.specs.declared.row.Row.{Row}
use Rattle.hls_core_stays.proofs.Swept.{IsSweeping}
use Rattle.hls_core_stays.proofs.tallies.sweep_rows.Given as goal

abbrev pub invariant-loop-at : goal.invariant-loop-at
invariant-loop-at l =
    IsSweeping (λ (row : Row). lasts row.since row.until) l.from l.fn.rows.items l.rows.items l.end l.at
