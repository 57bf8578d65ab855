use Rattle.std.proofs.Common.{◌++◌, map, drop}
use Rattle.hls_audit.specs.Inside.Told.{told}
use Rattle.hls_audit.proofs.DueLaws.{AreSoFar, on_members}
use Rattle.hls_audit.proofs.tree.Tree.put_dues_on.Given as goal

abbrev pub invariant-loop-member : goal.invariant-loop-member
invariant-loop-member l =
    AreSoFar l.dues.items (on_members l.self.members.items l.moved l.has (drop l.member-index l.self.members.items))
    (map told l.initial.dues.items ++ on_members l.self.members.items l.moved l.has l.self.members.items)
