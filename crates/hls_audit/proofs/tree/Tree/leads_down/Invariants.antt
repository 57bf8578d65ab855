use Rattle.std.proofs.Common.{take}
use Rattle.hls_audit.proofs.PathLaws.{IsLeft}
use Rattle.hls_audit.proofs.tree.Tree.leads_down.Given as goal

abbrev pub invariant-loop-place : goal.invariant-loop-place
invariant-loop-place l = IsLeft l.self.members.items l.names (take l.path.len l.path.names) l.above l.place-index
