use Rattle.hls_test_manager.proofs.Standings.{any}
use Rattle.hls_test_manager.proofs.carrying.carry_all.Goals as goal

pub returns : goal.returns
returns g c = any _ c.loop-item.tree c.loop-item.left c.loop-item.invariant.stands
