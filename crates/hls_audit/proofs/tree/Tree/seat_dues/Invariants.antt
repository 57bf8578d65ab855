use Rattle.std.proofs.Common.{drop}
use Rattle.hls_audit_clauses.specs.Dues.{dues_from}
use Rattle.hls_audit.proofs.DueLaws.{AreSoFar}
use Rattle.hls_audit.proofs.tree.Tree.seat_dues.Given as goal

abbrev pub invariant-loop-port : goal.invariant-loop-port
invariant-loop-port l =
    AreSoFar l.dues.items (dues_from l.self.members.items l.name l.port (drop l.port l.perches))
    (dues_from l.self.members.items l.name 0 l.perches)
