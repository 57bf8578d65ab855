use Rattle.hls_guarantee.specs.Service.{schedule_of}
use Rattle.hls_guarantee.proofs.Slides.{Slid}
use Rattle.hls_guarantee.proofs.deciding.windows_hold.Given as goal

abbrev pub invariant-loop-at : goal.invariant-loop-at
invariant-loop-at l = Slid l.hard l.x l.y (schedule_of l.list) l.at l.got
