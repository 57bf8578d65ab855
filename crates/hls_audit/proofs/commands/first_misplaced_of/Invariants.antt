use Rattle.hls_audit.specs.Inside.Sites.{IsMisplacedBy}
use Rattle.hls_audit.proofs.Orders.{AreGood}
use Rattle.hls_audit.proofs.commands.first_misplaced_of.Given as goal

abbrev pub invariant-loop-a : goal.invariant-loop-a
invariant-loop-a l = AreGood IsMisplacedBy l.answered l.a-index l.tree.members.items
