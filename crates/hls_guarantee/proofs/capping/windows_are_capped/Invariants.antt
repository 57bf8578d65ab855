use Rattle.hls_guarantee.specs.Service.{schedule_of}
use Rattle.hls_guarantee.proofs.Slides.{Capped}
use Rattle.hls_guarantee.proofs.capping.windows_are_capped.Given as goal

abbrev pub invariant-loop-at : goal.invariant-loop-at
invariant-loop-at l = Capped l.x l.y (schedule_of l.list) l.at l.got
