use Rattle.hls_view_lanes.proofs.OneLeaf.{shared}
use Rattle.hls_view_lanes.proofs.laws.threads_and_idleness_share_out_the_ticks.Goals as goal

pub returns : goal.returns
returns c = shared
