use Rattle.hls_audit.proofs.WayLaws.{IsWay}
use Rattle.hls_audit.proofs.tree.Tree.is_below.Given as goal

abbrev pub invariant-loop-at : goal.invariant-loop-at
invariant-loop-at l = IsWay l.self.members.items l.above l.name l.rising l.at
