use Rattle.hls_view_lanes.proofs.Turned.{counted}
use Rattle.hls_view_lanes.proofs.counts.counts_at.Goals as goal

pub returns : goal.returns
returns c =
    counted c.args.columns.now c.args.place c.loop-column.column-index c.loop-column.here.items c.of.result
    c.loop-column.ready.items c.of-2.result c.loop-column.served.items c.of-3.result c.loop-column-test.false
    c.of.ensures c.loop-column.invariant.here c.of-2.ensures c.loop-column.invariant.ready c.of-3.ensures
    c.loop-column.invariant.served
