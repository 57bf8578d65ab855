use Rattle.hls_core.proofs.Rousing.{thread_stands, may_release, one_follows}
use Rattle.hls_core.proofs.ticks.rouse_due.Goals as goal

pub set_ready-requires : goal.set_ready-requires
set_ready-requires g c = thread_stands _ c.args.tree.now c.args.tree.now c.args.stays.now c.args.id c.requires

pub release-requires : goal.release-requires
release-requires g c =
    may_release _ c.args.tree.now c.set_ready.new.self c.args.stays.now c.args.id c.requires c.set_ready.ensures.tree
    c.set_ready.ensures.others

pub returns-then-is_due-clause-stays : goal.returns-then-is_due-clause-stays
returns-then-is_due-clause-stays g c =
    one_follows _ c.args.tree.now c.set_ready.new.self c.args.stays.now c.args.id c.release.new.self
    c.set_ready.ensures.tree c.set_ready.ensures.others c.release.ensures
