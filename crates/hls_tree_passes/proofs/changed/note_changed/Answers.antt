use Rattle.hls_tree_passes.proofs.Tells.{on_pushed, on_last}
use Rattle.hls_tree_passes.proofs.changed.note_changed.Goals as goal

pub returns-in-Some-clause-kept : goal.returns-in-Some-clause-kept
returns-in-Some-clause-kept c = on_pushed c.args.changed.now _ _ _ c.in-Some.is c.push.ensures

pub returns-in-Some-clause-noted : goal.returns-in-Some-clause-noted
returns-in-Some-clause-noted c = on_last _ _ _ c.push.ensures
