use Rattle.hls_view_lanes.proofs.LeafLaws.{served-alone}
use Rattle.hls_view_lanes.proofs.laws.a_tick_goes_to_one_thread.Goals as goal

pub returns : goal.returns
returns c = served-alone
