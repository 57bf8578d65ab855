use Rattle.std.proofs.Common.{◌≡◌, take, map}
use Rattle.hls_view_timeline.specs.Taken.{is_number}
use Rattle.hls_view_timeline.proofs.staying.taking.Given as goal

abbrev pub invariant-loop-one : goal.invariant-loop-one
invariant-loop-one l = l.on.items ≡ map (is_number l.number) (take l.one-index l.taken)
