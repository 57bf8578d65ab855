use Rattle.std.proofs.Common.{◌++◌}
use Rattle.hls_view_tale.specs.Places.{labels_from}
use Rattle.hls_view_tale.proofs.SeatLaws.{AreSoFar}
use Rattle.hls_view_tale.proofs.seats.put_labels.Given as goal

abbrev pub invariant-loop-port : goal.invariant-loop-port
invariant-loop-port l =
    AreSoFar l.member l.above l.port l.member.perches l.labels.items
    (l.initial.labels.items ++ labels_from l.member l.above 0 l.member.perches)
