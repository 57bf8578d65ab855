use Rattle.std.proofs.Common.{◌++◌, map, drop}
use Rattle.hls_audit.specs.Inside.Told.{told, dues_under}
use Rattle.hls_audit.proofs.DueLaws.{AreSoFar}
use Rattle.hls_audit.proofs.dues.put_dues_under.Given as goal

abbrev pub invariant-loop-port : goal.invariant-loop-port
invariant-loop-port l =
    AreSoFar l.dues.items
    (dues_under l.config l.moved l.has l.member.name l.port (drop l.port l.member.perches))
    (map told l.initial.dues.items ++ dues_under l.config l.moved l.has l.member.name 0 l.member.perches)
