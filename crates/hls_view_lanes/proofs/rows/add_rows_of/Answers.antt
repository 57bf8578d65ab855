use Rattle.std.proofs.Common.{◌∙◌}
use Rattle.hls_view_lanes.proofs.RowLaws.{more-rows}
use Rattle.hls_view_lanes.proofs.rows.add_rows_of.Goals as goal

pub loop-labels-preserved : goal.loop-labels-preserved
loop-labels-preserved c =
    c.in_ok-add_row.ensures
    ∙ more-rows c.args.rows.now.items c.loop-labels.rows.items c.args.way.now c.loop-labels.labels
    c.loop-labels.invariant
