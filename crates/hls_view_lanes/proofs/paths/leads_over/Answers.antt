use Rattle.std.proofs.Common.{sym}
use Rattle.hls_view_lanes.proofs.Spelling.{spells-unequal}
use Rattle.hls_view_lanes.proofs.paths.leads_over.Goals as goal

pub returns-then-names-way : goal.returns-then-names-way
returns-then-names-way c = sym (spells-unequal c.args.names.now c.args.way.now c.if-names-way.true)
