use Rattle.hls_test_manager.proofs.Standings.{any}
use Rattle.hls_test_manager.proofs.carrying.carry_anyway.Goals as goal

pub shown-requires : goal.shown-requires
shown-requires g c = any _ c.args.tree.now c.args.left c.requires.stands

pub shown-requires-in-Err : goal.shown-requires-in-Err
shown-requires-in-Err g c = any _ c.carry_out.new.tree c.args.left c.in-Err.ensures.unchanged
