use Rattle.hls_view_lanes.proofs.LeafLaws.{idle-alone}
use Rattle.hls_view_lanes.proofs.laws.an_idle_tick_goes_to_nobody.Goals as goal

pub returns : goal.returns
returns c = idle-alone
