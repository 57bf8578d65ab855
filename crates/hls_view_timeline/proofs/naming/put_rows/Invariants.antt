use Rattle.std.proofs.Common.{◌≡◌, ◌++◌, take, flat_map}
use Rattle.hls_view_timeline.specs.Naming.{row_events}
use Rattle.hls_view_timeline.proofs.naming.put_rows.Given as goal

abbrev pub invariant-loop-way : goal.invariant-loop-way
invariant-loop-way l =
    l.events.items ≡ l.fn.events.items ++ flat_map (row_events l.rows) (take l.way-index l.rows)
