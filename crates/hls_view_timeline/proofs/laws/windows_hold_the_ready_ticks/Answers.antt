use Rattle.hls_view_timeline.proofs.StayTicks.{windows_are}
use Rattle.hls_view_timeline.proofs.laws.windows_hold_the_ready_ticks.Goals as goal

pub returns : goal.returns
returns r = λ c ways place a number t. windows_are c ways place a number t
