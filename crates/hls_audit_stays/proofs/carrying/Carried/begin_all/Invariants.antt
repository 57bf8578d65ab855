use Rattle.std.proofs.Common.{map, take}
use Rattle.hls_audit_stays.specs.Inside.Carried.{Opens, found_by}
use Rattle.hls_audit_stays.proofs.carrying.Carried.begin_all.Given as goal

abbrev pub invariant-loop-name : goal.invariant-loop-name
invariant-loop-name l =
    Opens l.fn.self l.self (map (found_by l.fn.self.seats l.fn.self.tick) (take l.name-index l.names))
