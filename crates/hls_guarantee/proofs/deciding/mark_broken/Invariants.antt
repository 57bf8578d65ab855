use Rattle.std.proofs.Common.{length}
use Rattle.hls_guarantee.specs.Service.{schedule_of}
use Rattle.hls_guarantee.proofs.Blocks.{Marked}
use Rattle.hls_guarantee.proofs.deciding.mark_broken.Given as goal

abbrev pub invariant-loop-at : goal.invariant-loop-at
invariant-loop-at l = Marked l.hard l.x l.y (schedule_of l.list) (length l.list) l.at l.got l.broken
