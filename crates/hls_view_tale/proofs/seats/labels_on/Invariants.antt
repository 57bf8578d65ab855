use Rattle.std.proofs.Common.{◌≡◌, take}
use Rattle.hls_view_tale.specs.Places.{labels_on}
use Rattle.hls_view_tale.proofs.seats.labels_on.Given as goal

abbrev pub invariant-loop-member : goal.invariant-loop-member
invariant-loop-member l = l.labels.items ≡ labels_on (take l.member-index l.members) l.above
