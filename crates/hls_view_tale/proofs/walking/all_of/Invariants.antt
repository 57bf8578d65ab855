use Rattle.std.proofs.Common.{length}
use Rattle.hls_view_tale.specs.Inside.Pending.{gone_into_all}
use Rattle.hls_view_tale.proofs.Stacks.{AreFound}
use Rattle.hls_view_tale.proofs.walking.all_of.Given as goal

abbrev pub invariant-loop-next : goal.invariant-loop-next
invariant-loop-next l =
    AreFound l.members l.found.items l.stack.items (gone_into_all l.members l.initial.stack.items)

abbrev pub decreases-loop-next : goal.decreases-loop-next
decreases-loop-next l = length (gone_into_all l.members l.stack.items)
