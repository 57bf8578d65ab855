use Rattle.hls_view_timeline.proofs.StayTicks.{runs_are}
use Rattle.hls_view_timeline.proofs.laws.runs_hold_the_ticks_of_their_way.Goals as goal

pub returns : goal.returns
returns r = λ c ways place a number t. runs_are c ways place a number t
