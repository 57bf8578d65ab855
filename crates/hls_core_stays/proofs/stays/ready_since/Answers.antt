use Rattle.hls_core_stays.proofs.Begins.{noted_ready}
use Rattle.hls_core_stays.proofs.stays.ready_since.Goals as goal

pub returns-then-is_ready-clause-noted : goal.returns-then-is_ready-clause-noted
returns-then-is_ready-clause-noted g c =
    noted_ready _ c.args.tree.now c.args.id c.now.result c.is_ready.result c.is_ready.ensures c.if-is_ready.true
    c.now.ensures
