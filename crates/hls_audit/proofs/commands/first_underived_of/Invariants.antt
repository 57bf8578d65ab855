use Rattle.hls_audit.proofs.Orders.{AreFit}
use Rattle.hls_audit.proofs.commands.first_underived_of.Given as goal

abbrev pub invariant-loop-a : goal.invariant-loop-a
invariant-loop-a l = AreFit l.depth l.answered l.a-index l.tree.members.items
