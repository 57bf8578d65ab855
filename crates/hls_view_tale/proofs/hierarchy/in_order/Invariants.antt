use Rattle.std.proofs.Common.{◌≡◌, take}
use Rattle.hls_view_tale.specs.Hierarchies.{in_order}
use Rattle.hls_view_tale.proofs.hierarchy.in_order.Given as goal

abbrev pub invariant-loop-standing : goal.invariant-loop-standing
invariant-loop-standing l = l.members.items ≡ in_order l.tree (take l.standing-index l.all)
